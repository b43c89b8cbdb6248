use Rattle.std.proofs.Common.{◌≡◌, map, take}
use Rattle.csub_tree.specs.Expressions.{expr_tree}
use Rattle.tree_shape.specs.Shape.{expr_shape}
use Rattle.tree_shape.proofs.shape.+same_expr.Given as goal

abbrev pub invariant-same_exprs-loop-i : goal.invariant-same_exprs-loop-i
invariant-same_exprs-loop-i l = map expr_shape (map expr_tree (take l.i l.a)) ≡ map expr_shape (map expr_tree (take l.i l.b))
