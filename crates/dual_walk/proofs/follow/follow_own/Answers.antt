use Rattle.std.proofs.Common.{sym, ◌∙◌, subst, arith}
use Rattle.std.proofs.lemmas.Option.{same_Some}
use Rattle.std.proofs.lemmas.Result.{on_ok_weaker}
use Rattle.dual_walk.specs.declared.fact.Fact.{Fact}
use Rattle.dual_walk.specs.Held.{AreAt}
use Rattle.dual_walk.proofs.Following.{moment_same, waiting_extends, stepped}
use Rattle.dual_walk.proofs.follow.follow_own.Goals as goal

pub follow_call-requires-clause-callee : goal.follow_call-requires-clause-callee
follow_call-requires-clause-callee g c P P' f p p' d ok ok' e is =
    let at = subst (λ (b : Fact). AreAt P P' b.old b.new f p p') (same_Some d c.args.from (sym e ∙ c.requires.stands)) is in
    c.in-Some.ensures.callee P P' f p p' ok ok' (moment_same c.args.both.now.old.now c.args.both.now.new.now c.args.pairs.now c.requires.moment P P' ok ok' c.args.at c.args.from c.requires.stands f p p' at) at.old

pub take_steps-requires-clause-plain : goal.take_steps-requires-clause-plain
take_steps-requires-clause-plain g c P P' f p p' ok ok' at = c.in-None.ensures.callee P P' f p p' ok ok' (moment_same c.args.both.now.old.now c.args.both.now.new.now c.args.pairs.now c.requires.moment P P' ok ok' c.args.at c.args.from c.requires.stands f p p' at) at.old

pub returns-in-None-clause-waiting : goal.returns-in-None-clause-waiting
returns-in-None-clause-waiting g c = on_ok_weaker c.take_steps.result (λ h. waiting_extends c.args.both.now.old.now c.args.both.now.new.now c.args.waiting.now c.take_steps.ensures.grows c.requires.waiting) c.take_steps.ensures.steps

pub returns-in-None-clause-followed : goal.returns-in-None-clause-followed
returns-in-None-clause-followed g c =
    on_ok_weaker c.take_steps.result
    (λ h P P' ok ok'. stepped P P' c.take_steps.new.pairs.facts.items c.args.waiting.now c.args.at c.args.from
    (λ f p p' at. c.in-None.ensures.callee P P' f p p' ok ok' (moment_same c.args.both.now.old.now c.args.both.now.new.now c.args.pairs.now c.requires.moment P P' ok ok' c.args.at c.args.from c.requires.stands f p p' at) at.old) (h P P' ok ok'))
    c.take_steps.ensures.steps

pub returns-in-None-clause-cost : goal.returns-in-None-clause-cost
returns-in-None-clause-cost g c = let cost = c.take_steps.ensures.cost in omega (arith, cost)
