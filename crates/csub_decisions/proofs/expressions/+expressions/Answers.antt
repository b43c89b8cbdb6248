use Rattle.csub_decisions.specs.Checks.{scope_at}
use Rattle.csub_decisions.proofs.ValidFormats.{IsExpr-Printf}
use Rattle.csub_decisions.proofs.expressions.+expressions.Goals as goal

pub is_expr-returns-then-is_format : goal.is_expr-returns-then-is_format
is_expr-returns-then-is_format t c =
    rw c.in-Printf.is
    (let f = IsExpr-Printf (scope_at c.args.site) c.args.site.number c.in-Printf.pieces c.in-Printf.values in
    let few = rw (c.deref-in-Printf.ensures.value, c.deref-in-Printf-2.ensures.value) at c.is_format.ensures in
    let each = rw c.deref-then-is_format.ensures.value at c.are_exprs.ensures in
    (λ h. f.1 (few.0 c.if-is_format.true, each.0 h), λ h. each.1 (f.0 h).1))

pub is_expr-returns-else-is_format : goal.is_expr-returns-else-is_format
is_expr-returns-else-is_format t c =
    rw c.in-Printf.is
    (let f = IsExpr-Printf (scope_at c.args.site) c.args.site.number c.in-Printf.pieces c.in-Printf.values in
    let few = rw (c.deref-in-Printf.ensures.value, c.deref-in-Printf-2.ensures.value) at c.is_format.ensures in
    (λ h. cc, λ h. few.1 (f.0 h).0))
