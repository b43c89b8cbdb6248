use Rattle.std.proofs.Common.{◌≡◌, map, take}
use Rattle.csub_tree.specs.Expressions.{expr_tree}
use Rattle.csub_tree.specs.Depth.{most, expr_depth}
use Rattle.csub_tree.proofs.deep.+expr_depth.Given as goal

abbrev pub invariant-exprs_depth-loop-expr : goal.invariant-exprs_depth-loop-expr
invariant-exprs_depth-loop-expr l = l.deep ≡ most (map expr_depth (map expr_tree (take l.expr-index l.exprs)))
