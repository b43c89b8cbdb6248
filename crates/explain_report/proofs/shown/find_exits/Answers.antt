use Rattle.std.proofs.Common.{◌≡◌, true, false, sym, ap, ◌∙◌, subst, ⊎_elim, arith}
use Rattle.std.specs.Prelude.{slice_get}
use Rattle.std.proofs.lemmas.Bool.{cases_lt}
use Rattle.std.proofs.lemmas.Option.{slice_get_within, slice_get-get_or, same_Some}
use Rattle.csub_semantics.specs.Points.{exit}
use Rattle.dual_walk.specs.declared.fact.Fact.{Fact}
use Rattle.dual_walk.specs.Held.{AreAt}
use Rattle.explain_report.proofs.shown.find_exits.Goals as goal

pub returns-then-is_at_exits-clause-exits : goal.returns-then-is_at_exits-clause-exits
returns-then-is_at_exits-clause-exits c P P' ok ok' named =
    let at = c.loop-place.place in
    let stands = slice_get-get_or c.args.facts.now at _ c.loop-place-test.true in
    (_, stands, (c.is_at_exits.ensures P P' ok ok' (named.each at _ stands)).0 c.if-is_at_exits.true)

pub loop-place-preserved : goal.loop-place-preserved
loop-place-preserved c P P' i d ok ok' named less e exits =
    let facts = c.args.facts.now in
    let at = c.loop-place.place in
    let stands = slice_get-get_or facts at _ c.loop-place-test.true in
    let here : i ≡ at → ⊥ = λ same.
    let one : d ≡ _ = same_Some d _ (sym e ∙ ap (slice_get facts) same ∙ stands) in
    let yes = (c.is_at_exits.ensures P P' ok ok' (named.each at _ stands)).1 (subst (λ (f : Fact). AreAt P P' f.old f.new c.args.name.now exit exit) one exits) in
    let clash : true ≡ false = sym yes ∙ c.if-is_at_exits.false in
    cc in
    ⊎_elim (λ l. c.loop-place.invariant P P' i d ok ok' named l e exits) (λ l. here (omega arith)) (cases_lt i at)

pub returns-clause-exits : goal.returns-clause-exits
returns-clause-exits c P P' ok ok' named h =
    let within = slice_get_within c.args.facts.now h.place h.fact h.stands in
    c.loop-place.invariant P P' h.place h.fact ok ok' named (omega arith) h.stands h.at
