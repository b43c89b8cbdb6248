use Rattle.std.proofs.Common.{ℕ, ◌<◌, get_or}
use Rattle.csub_semantics.specs.declared.expression.RExpr.{RExpr}
use Rattle.csub_semantics.specs.Trees.{expr_tree}
use Rattle.csub_validity.specs.Valid.{IsExpr}
use Rattle.csub_decisions.specs.Checks.{scope_at}
use Rattle.csub_decisions.proofs.expressions.+expressions.Given as goal

abbrev pub invariant-are_exprs-loop-expr : goal.invariant-are_exprs-loop-expr
invariant-are_exprs-loop-expr l = (k : ℕ) (d : RExpr) → k < l.expr-index → IsExpr (scope_at l.site) l.site.number (expr_tree (get_or l.exprs k d))
