use Rattle.std.proofs.Common.{◌≡◌, length, sym, ap, ◌∙◌, subst, arith}
use Rattle.std.specs.Prelude.{slice_get}
use Rattle.std.proofs.lemmas.Option.{slice_get-get_or}
use Rattle.dual_walk.specs.declared.fact.Fact.{Fact}
use Rattle.dual_walk.specs.declared.fact.Why.TheVariants.{Start}
use Rattle.dual_walk.specs.Rest.{facts_of}
use Rattle.call_walk.specs.Danger.{IsStoppedBefore}
use Rattle.call_walk.proofs.Marking.{before_step}
use Rattle.call_walk.proofs.danger.dangerous.Goals as goal

abbrev first_fact : Fact
first_fact = record { function = 0; old = 0; new = 0; why = Start }

pub loop-from-preserved : goal.loop-from-preserved
loop-from-preserved c = record {
  edges = c.mark.ensures.edges;
  marked = λ P P' ok ok'. before_step P P' (facts_of c.args.walk.now) c.loop-from.from-index _ c.loop-from.danger c.mark.new.danger
      (ap (λ l. slice_get l c.loop-from.from-index) (sym c.pairs-from-items.ensures) ∙ slice_get-get_or c.pairs-from-items.result.now c.loop-from.from-index first_fact c.loop-from-test.true)
      (c.mark.ensures.marks P P' ok ok') (c.loop-from.invariant.marked P P' ok ok');
}

pub returns-clause-marked : goal.returns-clause-marked
returns-clause-marked c P P' ok ok' e =
    let same : length (facts_of c.args.walk.now) ≡ length c.pairs-from-items.result.now = ap length (sym c.pairs-from-items.ensures) in
    let test = c.loop-from-test.false in
    let end = c.loop-from.auto.from-index-end in
    let all : c.loop-from.from-index ≡ length (facts_of c.args.walk.now) = omega arith in
    let m = c.loop-from.invariant.marked P P' ok ok' e in
    (λ x. subst (λ n. IsStoppedBefore P P' (facts_of c.args.walk.now) n e) all (m.0 x), λ h. m.1 (subst (λ n. IsStoppedBefore P P' (facts_of c.args.walk.now) n e) (sym all) h))
