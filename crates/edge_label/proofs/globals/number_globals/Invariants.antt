use Rattle.std.proofs.Common.{◌≡◌, IsTrue, map, take}
use Rattle.std.specs.List.{All}
use Rattle.csub_semantics.specs.Types.{global_tree}
use Rattle.edge_label.specs.Indices.{IsIndex}
use Rattle.edge_label.specs.Known.{AreStructs}
use Rattle.edge_label.specs.Numbers.{HasEachOnce}
use Rattle.edge_label.specs.Tables.{Extend, AreTables}
use Rattle.edge_label.specs.Uses.{Tags, IsTagged}
use Rattle.edge_label.proofs.globals.number_globals.Given as goal

-- each name of a global so far has the number of the first one, and the tables have grown
abbrev pub invariant-loop-global : goal.invariant-loop-global
invariant-loop-global l = record {
  index : (by_tag : Tags) → (IsTrue l.fn.trusted → All (λ g. IsTagged by_tag g.ctype) (map global_tree l.globals)) → AreTables l.fn.tables
      → IsIndex l.tables (map global_tree (take l.global-index l.globals)) l.numbers.by_name.entries;
  structs : (by_tag : Tags) → (IsTrue l.fn.trusted → All (λ g. IsTagged by_tag g.ctype) (map global_tree l.globals)) → AreTables l.fn.tables
      → AreStructs by_tag l.tables.structs l.tags;
  grows : Extend l.fn.tables l.tables;
  once : HasEachOnce l.fn.tables.parts → HasEachOnce l.tables.parts;
  trusted : l.tags.trusted ≡ l.fn.trusted;
}
