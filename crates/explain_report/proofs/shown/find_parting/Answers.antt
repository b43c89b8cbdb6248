use Rattle.std.proofs.Common.{◌≡◌, true, false, sym, ap, ◌∙◌, subst, ⊎_elim, arith}
use Rattle.std.specs.Prelude.{slice_get, Some}
use Rattle.std.proofs.lemmas.Bool.{cases_lt}
use Rattle.std.proofs.lemmas.Option.{slice_get_within, slice_get-get_or, same_Some}
use Rattle.csub_semantics.specs.Numbers.{site, site_at}
use Rattle.dual_walk.specs.declared.fact.Fact.{Fact}
use Rattle.explain_report.proofs.shown.find_parting.Goals as goal
use Rattle.explain_report.proofs.shown.find_parting.Goals.{else-fact-from-via-then-fact-from+else-parts, else-fact-from-via-else-fact-from}

pub loop-place-preserved : goal.loop-place-preserved
loop-place-preserved c i d P' f p' less e from ok there none =
    let facts = c.args.facts.now in
    let at = c.loop-place.place in
    let stands = slice_get-get_or facts at _ c.loop-place-test.true in
    let here : i ≡ at → ⊥ = λ same.
    let one : d ≡ _ = same_Some d _ (sym e ∙ ap (slice_get facts) same ∙ stands) in
    elim c.else-fact-from.branch [
      | else-fact-from-via-then-fact-from+else-parts w ↦
          let yes = (w.parts.ensures P' f p' ok (subst (λ (b : Fact). site_at P' b.new ≡ Some (site f p')) one there)).1 none in
          let clash : true ≡ false = sym yes ∙ w.if-parts.false in
          cc
      | else-fact-from-via-else-fact-from w ↦ w.if-fact-from.false (subst (λ (b : Fact). b.old ≡ c.args.from) one from)
    ] in
    ⊎_elim (λ l. c.loop-place.invariant i d P' f p' l e from ok there none) (λ l. here (omega arith)) (cases_lt i at)

pub returns-clause-none : goal.returns-clause-none
returns-clause-none c i d P' f p' e from ok there none =
    let within = slice_get_within c.args.facts.now i d e in
    c.loop-place.invariant i d P' f p' (omega arith) e from ok there none
