use Rattle.std.proofs.Common.{◌≡◌, map, take}
use Rattle.csub_tree.specs.Units.{item_tree}
use Rattle.tree_shape.specs.Shape.{item_shape}
use Rattle.tree_shape.proofs.shape.same_items.Given as goal

abbrev pub invariant-loop-i : goal.invariant-loop-i
invariant-loop-i l = map item_shape (map item_tree (take l.i l.a)) ≡ map item_shape (map item_tree (take l.i l.b))
