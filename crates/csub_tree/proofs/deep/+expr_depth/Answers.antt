use Rattle.std.proofs.Common.{rules, arith, ◌≡◌, map, sym, ap, ◌∙◌}
use denote.Param.Weighed.{at_most}
use Rattle.csub_tree.proofs.expression.Expr.TheLaws.{the_size}
use Rattle.csub_tree.specs.declared.expression.ExprKind.{the_lemmas}
use Rattle.csub_tree.specs.Expressions.{expr_tree, kind_tree}
use Rattle.csub_tree.specs.Depth.{most, expr_depth, kind_depth}
use Rattle.csub_tree.proofs.Depths.{most_at, most_take, call_depth}
use Rattle.csub_tree.proofs.deep.+expr_depth.Goals as goal

pub exprs_depth-expr_depth-requires : goal.exprs_depth-expr_depth-requires
exprs_depth-expr_depth-requires t c =
    let less = at_most the_size c.args.exprs.now c.loop-expr.expr-index c.expr-item.result c.loop-expr-test.true in
    let same = ap the_size c.expr-item.is in
    (search rules, omega (arith, c.requires, most_at expr_depth expr_tree c.args.exprs.now c.loop-expr.expr-index c.expr-item.result c.loop-expr-test.true c.expr-item.is))

pub exprs_depth-loop-expr-preserved : goal.exprs_depth-loop-expr-preserved
exprs_depth-loop-expr-preserved t c =
    let step = most_take expr_depth expr_tree c.args.exprs.now c.loop-expr.expr-index c.expr-item.result c.loop-expr-test.true c.expr-item.is in
    omega (arith, step, c.max-deep.ensures, c.expr_depth.ensures, c.loop-expr.invariant)

pub kind_depth-exprs_depth-requires : goal.kind_depth-exprs_depth-requires
kind_depth-exprs_depth-requires t c =
    let same : kind_depth (kind_tree c.args.kind.now) ≡ most (map expr_depth (map expr_tree c.deref-in-Call.result.now)) = ap (λ k. kind_depth (kind_tree k)) c.in-Call.is ∙ (call_depth c.in-Call.field-0 c.in-Call.args ∙ ap (λ es. most (map expr_depth (map expr_tree es))) (sym c.deref-in-Call.ensures.value)) in
    (search (rules, the_lemmas), omega (arith, c.requires, same))

pub kind_depth-returns-in-Call : goal.kind_depth-returns-in-Call
kind_depth-returns-in-Call t c =
    let same : kind_depth (kind_tree c.args.kind.now) ≡ most (map expr_depth (map expr_tree c.deref-in-Call.result.now)) = ap (λ k. kind_depth (kind_tree k)) c.in-Call.is ∙ (call_depth c.in-Call.field-0 c.in-Call.args ∙ ap (λ es. most (map expr_depth (map expr_tree es))) (sym c.deref-in-Call.ensures.value)) in
    c.exprs_depth.ensures ∙ sym same
