use Rattle.std.proofs.Common.{◌≡◌, map, take}
use Rattle.csub_tree.specs.Declarations.{param_tree}
use Rattle.tree_shape.specs.Shape.{param_shape}
use Rattle.tree_shape.proofs.shape.same_params.Given as goal

abbrev pub invariant-loop-i : goal.invariant-loop-i
invariant-loop-i l = map param_shape (map param_tree (take l.i l.a)) ≡ map param_shape (map param_tree (take l.i l.b))
