use Rattle.std.proofs.Common.{◌≡◌, ◌∙◌, ◌++◌, OnOk, ap, ap₂, map, subst, sym, refl, ◌∷◌}
use Rattle.csub_semantics.specs.Trees.{formatted, exprs_of, expr_tree}
use Rattle.csub_semantics.proofs.LawsRows.{expr_tree-Printf}
use Rattle.label_code.specs.Bare.{bare_expr, bare_exprs}
use Rattle.label_code.specs.Codes.{expr_code, exprs_code}
use Rattle.label_code.proofs.WriteLemmas.{next_written, all_written}
use Rattle.label_code.proofs.code.+expressions.Goals as goal

pub push_expr-returns-in-Printf : goal.push_expr-returns-in-Printf
push_expr-returns-in-Printf t c =
    let parts = ap₂ (λ ps es. expr_code (bare_expr (formatted ps (exprs_of (map expr_tree es))))) c.deref-in-Printf.ensures.value c.deref-in-Printf-2.ensures.value in
    let tree = ap expr_tree c.in-Printf.is ∙ expr_tree-Printf c.in-Printf.pieces c.in-Printf.values in
    subst (λ code. OnOk c.push_printf.result (c.push_printf.new.out.items ≡ c.args.out.now.items ++ code)) (parts ∙ ap (λ e. expr_code (bare_expr e)) (sym tree)) c.push_printf.ensures

pub push_exprs-loop-expr-preserved : goal.push_exprs-loop-expr-preserved
push_exprs-loop-expr-preserved t c =
    let x = c.expr-item.result in
    next_written (λ exprs. exprs_code (bare_exprs (exprs_of (map expr_tree exprs)))) (λ expr. 1 ∷ expr_code (bare_expr (expr_tree expr))) (λ expr rest. refl) c.args.exprs.now
    c.loop-expr.expr-index x x c.loop-expr.out.items c.push_behind.new.out.items _ c.loop-expr-test.true c.expr-item.is c.in_ok-push_behind.ensures c.loop-expr.invariant

pub push_exprs-returns : goal.push_exprs-returns
push_exprs-returns t c =
    all_written (λ exprs. exprs_code (bare_exprs (exprs_of (map expr_tree exprs)))) c.args.exprs.now c.loop-expr.expr-index c.loop-expr.out.items c.push.new.self.items _
    c.loop-expr-test.false c.in_ok-push.ensures.items c.loop-expr.invariant
