use Rattle.std.proofs.Common.{◌≡◌, ◌∙◌, ℤ, List, map, length, All, Result, ap, sym, subst, w64, to_z, of_z, arith, rules}
use Rattle.std.proofs.lemmas.List.{length-map}
use denote.Param.Weighed.{at_most}
use Rattle.csub_types.specs.declared.trap.Trap.{Trap}
use Rattle.csub_semantics.specs.declared.expression.Piece.{Piece}
use Rattle.csub_semantics.specs.Trees.{formatted, exprs_of}
use Rattle.csub_semantics.specs.Memory.{Answer, value, then_do}
use Rattle.csub_semantics.specs.Evaluation.{eval, indexed}
use Rattle.csub_flat.specs.Trees.{FlatExpr}
use Rattle.csub_flat.specs.declared.flat.FlatExpr.{FlatExpr as CodeExpr, the_lemmas}
use Rattle.csub_flat.specs.Seen.{part_seen, expr_seen}
use Rattle.csub_flat.proofs.LawsRows.{expr_seen-Printf, flat_size, mapped_has}
use Rattle.csub_slots.specs.Memory.{FlatSpot, flat}
use Rattle.csub_slots.specs.Acts.{FlatStore}
use Rattle.csub_slots.specs.Seen.{spot_seen}
use Rattle.csub_slots.specs.Numbered.{narrowed}
use Rattle.csub_slots.specs.States.{state_of, Gives, same, FewValues}
use Rattle.csub_slots.specs.declared.spot.Spot.{Spot}
use Rattle.csub_slots.proofs.Texts.{row_length, each_few}
use Rattle.csub_slots.proofs.eval.«+expressions».Goals as goal

-- a step behind another
step_behind : (a : Answer ℤ FlatStore) (go : ℤ → FlatStore → Answer FlatSpot FlatStore) (v : ℤ) (u : FlatStore) (r : Result Spot Trap) → a ≡ value v u → Gives spot_seen (go v u) r u → Gives spot_seen (then_do a go) r u
step_behind a go v u r first last = subst (λ x. Gives spot_seen (then_do x go) r u) (sym first) last

pub find_element-returns-clause-value : goal.find_element-returns-clause-value
find_element-returns-clause-value t c =
    let index : eval (flat c.args.base) (expr_seen c.args.index.now) (state_of c.args.store.now) ≡ value (to_z w64 (of_z w64 c.in_ok-value.value)) (state_of c.operand.new.store) = search rules in
    step_behind (eval (flat c.args.base) (expr_seen c.args.index.now) (state_of c.args.store.now)) (indexed (flat c.args.base) (part_seen c.args.part) (spot_seen c.args.spot)) _ (state_of c.operand.new.store)
    (narrowed c.element.result) index (c.element.ensures (state_of c.operand.new.store))

pub evaluate_any-eval_format-requires : goal.evaluate_any-eval_format-requires
evaluate_any-eval_format-requires t c =
    let pieces = c.in-Printf.pieces in
    let exprs = c.in-Printf.exprs in
    let old = ap expr_seen c.in-Printf.is ∙ expr_seen-Printf pieces exprs in
    let fits = subst FewValues old c.requires in
    let count = row_length (map expr_seen exprs.items) in
    let mapped = length-map exprs.items expr_seen in
    let seen = ap length c.deref-in-Printf-2.ensures.value in
    let few = fits.0 in
    let each = each_few (map expr_seen exprs.items) fits.1 in
    (search (rules, the_lemmas), (omega arith, subst (λ (es : List CodeExpr). All FewValues (map expr_seen es)) (sym c.deref-in-Printf-2.ensures.value) each))

pub evaluate_any-returns-in-Printf-clause-value : goal.evaluate_any-returns-in-Printf-clause-value
evaluate_any-returns-in-Printf-clause-value t c =
    let pieces = c.in-Printf.pieces in
    let exprs = c.in-Printf.exprs in
    let tree =
    ap expr_seen c.in-Printf.is ∙ expr_seen-Printf pieces exprs
    ∙ ap (λ (ps : List Piece). let e : FlatExpr = formatted ps (exprs_of (map expr_seen exprs.items)) in e) (sym c.deref-in-Printf.ensures.value)
    ∙ ap (λ (es : List CodeExpr). let e : FlatExpr = formatted c.deref-in-Printf.result.now (exprs_of (map expr_seen es)) in e) (sym c.deref-in-Printf-2.ensures.value)
    in
    subst (λ (e : FlatExpr). Gives same (eval (flat c.args.base) e (state_of c.args.store.now)) (narrowed c.eval_format.result) (state_of c.eval_format.new.store)) (sym tree) c.eval_format.ensures.value

pub eval_values-operand-requires : goal.eval_values-operand-requires
eval_values-operand-requires t c =
    let less = at_most flat_size c.args.exprs.now c.loop-expr.expr-index c.expr-item.result c.loop-expr-test.true in
    let size = ap flat_size c.expr-item.is in
    (search rules, mapped_has FewValues expr_seen c.args.exprs.now c.loop-expr.expr-index c.expr-item.result c.requires.each c.loop-expr-test.true c.expr-item.is)
