-- Arguments, counted in the code and in their trees.
use Rattle.std.proofs.Common.{◌≡◌, List, [], ◌∷◌, suc, length, map, refl, ap}
use Rattle.csub_tree.specs.declared.expression.Expr.{Expr as CodeExpr}
use Rattle.csub_tree.specs.Expressions.{expr_tree, exprs_of}
use Rattle.csub_rules.specs.Formats.{count}

pub count_is : (es : List CodeExpr) → count (exprs_of (map expr_tree es)) ≡ length es
count_is [] = refl
count_is (e ∷ es) = ap suc (count_is es)
