use Rattle.std.proofs.Common.{◌≡◌, map, take}
use Rattle.csub_tree.specs.Units.{constant_tree}
use Rattle.tree_shape.specs.Shape.{constant_shape}
use Rattle.tree_shape.proofs.shape.same_constants.Given as goal

abbrev pub invariant-loop-i : goal.invariant-loop-i
invariant-loop-i l = map constant_shape (map constant_tree (take l.i l.a)) ≡ map constant_shape (map constant_tree (take l.i l.b))
