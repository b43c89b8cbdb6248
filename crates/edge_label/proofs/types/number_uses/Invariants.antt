use Rattle.std.proofs.Common.{map, take}
use Rattle.edge_label.specs.Tables.{Extend, AreTables, AreTypeNumbers, use_type}
use Rattle.edge_label.specs.Uses.{use_tree}
use Rattle.edge_label.proofs.types.number_uses.Given as goal

-- the types so far have these numbers
abbrev pub invariant-loop-used : goal.invariant-loop-used
invariant-loop-used l = record {
  numbers : AreTables l.fn.tables → AreTypeNumbers l.tables l.numbers.items (map use_type (map use_tree (take l.used-index l.uses)));
  sound : AreTables l.fn.tables → AreTables l.tables;
  grows : Extend l.fn.tables l.tables;
}
