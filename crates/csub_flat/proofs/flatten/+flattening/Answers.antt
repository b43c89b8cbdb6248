use Rattle.std.proofs.Common.{rules, ◌∙◌, List, map, All, ap, sym, subst}
use denote.Param.Weighed.{at_most}
use Rattle.csub_semantics.specs.declared.expression.Piece.{Piece}
use Rattle.csub_semantics.specs.declared.expression.RExpr.{RExpr, the_lemmas}
use Rattle.csub_semantics.specs.Trees.{formatted, exprs_of, expr_tree}
use Rattle.csub_semantics.proofs.LawsRows.{expr_size, expr_tree-Printf}
use Rattle.csub_flat.specs.Trees.{FlatExpr, FlatExprs}
use Rattle.csub_flat.specs.Flatten.{flattened}
use Rattle.csub_flat.specs.Fits.{FitsExpr}
use Rattle.csub_flat.specs.Scopes.{globals_at, function_at}
use Rattle.csub_flat.specs.Seen.{expr_seen}
use Rattle.csub_flat.proofs.LawsRows.{expr_seen-Printf, flattened_list, each_fits, mapped_has}
use Rattle.csub_flat.proofs.flatten.+flattening.Goals as goal

pub flatten_expr-flatten_exprs-requires : goal.flatten_expr-flatten_exprs-requires
flatten_expr-flatten_exprs-requires t c =
    let gs = globals_at c.args.scope in
    let f = function_at c.args.scope in
    let old = ap expr_tree c.in-Printf.is ∙ expr_tree-Printf c.in-Printf.pieces c.in-Printf.values in
    let fits = subst (FitsExpr gs f) old c.requires in
    let each = each_fits gs f (map expr_tree c.in-Printf.values.items) fits.1 in
    (search (rules, the_lemmas), subst (λ (es : List RExpr). All (FitsExpr gs f) (map expr_tree es)) (sym c.deref-in-Printf-2.ensures.value) each)

pub flatten_expr-returns-in_ok-flatten_exprs-in-Printf : goal.flatten_expr-returns-in_ok-flatten_exprs-in-Printf
flatten_expr-returns-in_ok-flatten_exprs-in-Printf t c =
    let gs = globals_at c.args.scope in
    let f = function_at c.args.scope in
    let old = ap expr_tree c.in-Printf.is ∙ expr_tree-Printf c.in-Printf.pieces c.in-Printf.values in
    let pieces = c.in_ok-format-in-Printf.ensures ∙ c.deref-in-Printf.ensures.value in
    let values = c.in_ok-flatten_exprs-in-Printf.ensures ∙ ap (λ (es : List RExpr). map (flattened gs f) (map expr_tree es)) c.deref-in-Printf-2.ensures.value in
    expr_seen-Printf c.in_ok-format-in-Printf.format c.in_ok-flatten_exprs-in-Printf.field-0
    ∙ ap (λ (ps : List Piece). let e : FlatExpr = formatted ps (exprs_of (map expr_seen c.in_ok-flatten_exprs-in-Printf.field-0.items)) in e) pieces
    ∙ ap (λ (es : List FlatExpr). let e : FlatExpr = formatted c.in-Printf.pieces.items (exprs_of es) in e) values
    ∙ ap (λ (es : FlatExprs). let e : FlatExpr = formatted c.in-Printf.pieces.items es in e) (sym (flattened_list gs f (map expr_tree c.in-Printf.values.items)))
    ∙ sym (ap (flattened gs f) old)

pub flatten_exprs-flatten_expr-requires : goal.flatten_exprs-flatten_expr-requires
flatten_exprs-flatten_expr-requires t c =
    let less = at_most expr_size c.args.exprs.now c.loop-expr.expr-index c.expr-item.result c.loop-expr-test.true in
    let same = ap expr_size c.expr-item.is in
    (search rules, mapped_has (FitsExpr (globals_at c.args.scope) (function_at c.args.scope)) expr_tree c.args.exprs.now c.loop-expr.expr-index c.expr-item.result c.requires c.loop-expr-test.true c.expr-item.is)
