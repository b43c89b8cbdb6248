use Rattle.std.proofs.Common.{◌≡◌, ◌∙◌, ◌++◌, OnOk, ap, map, subst, sym, refl}
use Rattle.csub_semantics.specs.Trees.{expr_tree, exprs_of}
use Rattle.csub_semantics.proofs.LawsRows.{expr_tree-Printf}
use Rattle.label_code.specs.Uses.{expr_uses, exprs_uses, use_tree}
use Rattle.label_code.proofs.WriteLemmas.{next_written}
use Rattle.label_code.proofs.uses.+expressions.Goals as goal

pub add_expr-returns-in-Printf : goal.add_expr-returns-in-Printf
add_expr-returns-in-Printf t c =
    let row = ap (λ es. exprs_uses (exprs_of (map expr_tree es))) c.deref.ensures.value in
    let tree = ap expr_tree c.in-Printf.is ∙ expr_tree-Printf c.in-Printf.field-0 c.in-Printf.values in
    subst (λ uses. OnOk c.add_exprs.result (map use_tree c.add_exprs.new.uses.items ≡ map use_tree c.args.uses.now.items ++ uses)) (row ∙ ap expr_uses (sym tree)) c.add_exprs.ensures

pub add_exprs-loop-expr-preserved : goal.add_exprs-loop-expr-preserved
add_exprs-loop-expr-preserved t c =
    let x = c.expr-item.result in
    next_written (λ exprs. exprs_uses (exprs_of (map expr_tree exprs))) (λ expr. expr_uses (expr_tree expr)) (λ expr rest. refl) c.args.exprs.now c.loop-expr.expr-index x x
    (map use_tree c.loop-expr.uses.items) (map use_tree c.add_expr.new.uses.items) _ c.loop-expr-test.true c.expr-item.is c.in_ok-add_expr.ensures c.loop-expr.invariant
