use Rattle.std.proofs.Common.{◌≡◌, ◌∙◌, ◌++◌, ℕ, List, Option, Some, None, map, refl, ap, sym}
use Rattle.csub_tree.specs.declared.expression.Expr.{Expr as CodeExpr}
use Rattle.csub_tree.specs.Expressions.{expr_tree, exprs_of, kind_tree}
use Rattle.csub_validity.specs.Valid.{most_values}
use Rattle.csub_limits.specs.Limits.{first_above}
use Rattle.csub_limits.specs.Prints.{prints, prints_all, prints_in}
use Rattle.csub_limits.proofs.Above.{above_append, in_left, in_right, found_here, none_here}
use Rattle.csub_limits.proofs.Parts.{choose_parts, two_parts}
use Rattle.csub_limits.proofs.prints.+expression.Goals as goal

abbrev wide : List ℕ → Option ℕ
wide = first_above most_values

left : (xs ys : List ℕ) (o : Option ℕ) (n : ℕ) → o ≡ wide xs → o ≡ Some n → Some n ≡ wide (xs ++ ys)
left = in_left wide (above_append most_values)

right : (xs ys : List ℕ) (o p : Option ℕ) → o ≡ wide xs → o ≡ None → p ≡ wide ys → p ≡ wide (xs ++ ys)
right = in_right wide (above_append most_values)

pub wide_in_exprs-returns-in-Some : goal.wide_in_exprs-returns-in-Some
wide_in_exprs-returns-in-Some t c =
    found_here wide (above_append most_values) (λ (es : List CodeExpr). prints_all (exprs_of (map expr_tree es))) (λ (e : CodeExpr). prints (expr_tree e)) (λ e es. refl)
    c.args.exprs.now c.loop-e.e-index c.e-item.result c.wide_in_expr.result c.in-Some.values c.loop-e-test.true c.e-item.is c.loop-e.invariant c.wide_in_expr.ensures c.in-Some.is

pub wide_in_exprs-loop-e-preserved : goal.wide_in_exprs-loop-e-preserved
wide_in_exprs-loop-e-preserved t c =
    none_here wide (above_append most_values) (λ (es : List CodeExpr). prints_all (exprs_of (map expr_tree es))) (λ (e : CodeExpr). prints (expr_tree e)) (λ e es. refl)
    c.args.exprs.now c.loop-e.e-index c.e-item.result c.wide_in_expr.result c.loop-e-test.true c.e-item.is c.loop-e.invariant c.wide_in_expr.ensures c.in_default.is

pub wide_in_kind-returns-in-Some : goal.wide_in_kind-returns-in-Some
wide_in_kind-returns-in-Some t c =
    let test = prints (expr_tree c.in-Choose.test.value) in
    let first = prints (expr_tree c.in-Choose.a.value) in
    let second = prints (expr_tree c.in-Choose.b.value) in
    let whole = ap (λ k. prints_in (kind_tree k)) c.in-Choose.is ∙ choose_parts c.in-Choose.test c.in-Choose.a c.in-Choose.b in
    left test (first ++ second) c.wide_in_expr.result c.in-Some.values (rw c.deref.ensures at c.wide_in_expr.ensures) c.in-Some.is
    ∙ ap wide (sym whole)

pub wide_in_kind-returns-in-Some-wide_in_expr : goal.wide_in_kind-returns-in-Some-wide_in_expr
wide_in_kind-returns-in-Some-wide_in_expr t c =
    let test = prints (expr_tree c.in-Choose.test.value) in
    let first = prints (expr_tree c.in-Choose.a.value) in
    let second = prints (expr_tree c.in-Choose.b.value) in
    let whole = ap (λ k. prints_in (kind_tree k)) c.in-Choose.is ∙ choose_parts c.in-Choose.test c.in-Choose.a c.in-Choose.b in
    right test (first ++ second) c.wide_in_expr.result _ (rw c.deref.ensures at c.wide_in_expr.ensures) c.in-None.is
    (left first second c.wide_in_expr-in-None.result c.in-Some-wide_in_expr.values (rw c.deref-in-None.ensures at c.wide_in_expr-in-None.ensures) c.in-Some-wide_in_expr.is)
    ∙ ap wide (sym whole)

pub wide_in_kind-returns-in-None-wide_in_expr : goal.wide_in_kind-returns-in-None-wide_in_expr
wide_in_kind-returns-in-None-wide_in_expr t c =
    let test = prints (expr_tree c.in-Choose.test.value) in
    let first = prints (expr_tree c.in-Choose.a.value) in
    let second = prints (expr_tree c.in-Choose.b.value) in
    let whole = ap (λ k. prints_in (kind_tree k)) c.in-Choose.is ∙ choose_parts c.in-Choose.test c.in-Choose.a c.in-Choose.b in
    right test (first ++ second) c.wide_in_expr.result _ (rw c.deref.ensures at c.wide_in_expr.ensures) c.in-None.is
    (right first second c.wide_in_expr-in-None.result _ (rw c.deref-in-None.ensures at c.wide_in_expr-in-None.ensures) c.in-None-wide_in_expr.is
    (rw c.deref-in-None-wide_in_expr.ensures at c.wide_in_expr-in-None-wide_in_expr.ensures))
    ∙ ap wide (sym whole)

pub wide_in_kind-returns-in-Some-wide_in_expr-2 : goal.wide_in_kind-returns-in-Some-wide_in_expr-2
wide_in_kind-returns-in-Some-wide_in_expr-2 t c =
    let first = prints (expr_tree c.in-Binary.a.value) in
    let second = prints (expr_tree c.in-Binary.b.value) in
    let whole = two_parts c.args.kind.now c.in-Binary.a c.in-Binary.b c.in-Binary.is in
    left first second c.wide_in_expr-in-Binary.result c.in-Some-wide_in_expr-2.values (rw c.deref-in-Binary.ensures at c.wide_in_expr-in-Binary.ensures) c.in-Some-wide_in_expr-2.is
    ∙ ap wide (sym whole)

pub wide_in_kind-returns-in-None-wide_in_expr-2 : goal.wide_in_kind-returns-in-None-wide_in_expr-2
wide_in_kind-returns-in-None-wide_in_expr-2 t c =
    let first = prints (expr_tree c.in-Binary.a.value) in
    let second = prints (expr_tree c.in-Binary.b.value) in
    let whole = two_parts c.args.kind.now c.in-Binary.a c.in-Binary.b c.in-Binary.is in
    right first second c.wide_in_expr-in-Binary.result _ (rw c.deref-in-Binary.ensures at c.wide_in_expr-in-Binary.ensures) c.in-None-wide_in_expr-2.is
    (rw c.deref-in-None-wide_in_expr-2.ensures at c.wide_in_expr-in-None-wide_in_expr-2.ensures)
    ∙ ap wide (sym whole)
