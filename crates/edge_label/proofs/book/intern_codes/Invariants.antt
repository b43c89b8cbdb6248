use Rattle.std.proofs.Common.{List, map, take}
use Rattle.csub_semantics.specs.Types.{GlobalTree}
use Rattle.csub_semantics.specs.Labels.{label_tree}
use Rattle.edge_label.specs.Indices.{IsIndex}
use Rattle.edge_label.specs.Numbers.{HaveNumbers, whole}
use Rattle.edge_label.specs.Known.{AreTyped}
use Rattle.edge_label.specs.Tables.{label_in, IsBook, Grows}
use Rattle.edge_label.specs.declared.table.Tables.{Tables}
use Rattle.edge_label.proofs.book.intern_codes.Given as goal

-- the numbers of the labels so far
abbrev pub invariant-loop-typed : goal.invariant-loop-typed
invariant-loop-typed l = record {
  numbers : (tables : Tables) (globals : List GlobalTree) → AreTyped tables l.labels → IsIndex tables globals l.numbers.by_name.entries → IsBook tables (map (λ code. code.items) l.fn.codes.keys)
      → HaveNumbers (map (label_in tables) (map (λ code. code.items) l.codes.keys)) l.row.items (map (λ t. whole globals (label_tree t.label.now)) (take l.typed-index l.labels));
  grows : (tables : Tables) (globals : List GlobalTree) → AreTyped tables l.labels → IsIndex tables globals l.numbers.by_name.entries → IsBook tables (map (λ code. code.items) l.fn.codes.keys)
      → Grows tables (map (λ code. code.items) l.fn.codes.keys) (map (λ code. code.items) l.codes.keys);
}
