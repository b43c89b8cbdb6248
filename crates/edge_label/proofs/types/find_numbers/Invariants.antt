use Rattle.std.proofs.Common.{map, take}
use Rattle.std.specs.List.{All}
use Rattle.edge_label.specs.Known.{AreStructs, AreKnown}
use Rattle.edge_label.specs.Numbers.{HasEachOnce}
use Rattle.edge_label.specs.Tables.{Extend, AreTypeNumbers, use_type}
use Rattle.edge_label.specs.Uses.{Declarations, IsDeclaredUse, use_tree}
use Rattle.edge_label.proofs.types.find_numbers.Given as goal

-- the types so far have these numbers, and their names are known
abbrev pub invariant-loop-used : goal.invariant-loop-used
invariant-loop-used l = record {
  found : (d : Declarations) → All (IsDeclaredUse d l.function) (map use_tree l.uses) → AreStructs d.by_tag l.fn.tables.structs l.fn.known.tags
      → AreKnown l.fn.tables d l.fn.known.names l.fn.known.numbers.items
      → AreTypeNumbers l.tables l.numbers.items (map use_type (map use_tree (take l.used-index l.uses))) × AreKnown l.tables d l.known.names l.known.numbers.items;
  structs : (d : Declarations) → All (IsDeclaredUse d l.function) (map use_tree l.uses) → AreStructs d.by_tag l.fn.tables.structs l.fn.known.tags
      → AreStructs d.by_tag l.tables.structs l.known.tags;
  grows : Extend l.fn.tables l.tables;
  once : HasEachOnce l.fn.tables.parts → HasEachOnce l.tables.parts;
}
