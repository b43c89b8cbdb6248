use Rattle.std.proofs.Common.{◌≡◌, map, take}
use Rattle.std.specs.List.{All}
use Rattle.csub_semantics.specs.Labels.{label_tree}
use Rattle.edge_label.specs.Known.{AreStructs, AreKnown, AreTyped}
use Rattle.edge_label.specs.Numbers.{HasEachOnce}
use Rattle.edge_label.specs.Tables.{Extend}
use Rattle.edge_label.specs.Uses.{Declarations, IsDeclared, standing_tree}
use Rattle.edge_label.proofs.types.type_labels.Given as goal

-- the labels so far have the numbers of their types
abbrev pub invariant-loop-standing : goal.invariant-loop-standing
invariant-loop-standing l = record {
  typed : (d : Declarations) → All (IsDeclared d) (map standing_tree l.labels) → AreStructs d.by_tag l.fn.tables.structs l.fn.known.tags
      → AreKnown l.fn.tables d l.fn.known.names l.fn.known.numbers.items → AreTyped l.tables l.rows.items × AreKnown l.tables d l.known.names l.known.numbers.items;
  structs : (d : Declarations) → All (IsDeclared d) (map standing_tree l.labels) → AreStructs d.by_tag l.fn.tables.structs l.fn.known.tags
      → AreStructs d.by_tag l.tables.structs l.known.tags;
  labels : map (λ t. label_tree t.label.now) l.rows.items ≡ map (λ s. label_tree s.label.now) (take l.standing-index l.labels);
  grows : Extend l.fn.tables l.tables;
  once : HasEachOnce l.fn.tables.parts → HasEachOnce l.tables.parts;
}
