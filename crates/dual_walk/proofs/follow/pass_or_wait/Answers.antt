use Rattle.std.proofs.Common.{◌<◌, length, arith, inl, inr}
use Rattle.std.proofs.lemmas.Result.{on_ok_weaker}
use Rattle.dual_walk.proofs.LawsLists.{get_some}
use Rattle.dual_walk.proofs.RowLemmas.{lists_added, lists_kept}
use Rattle.dual_walk.proofs.Following.{call_over, call_waits, waiting_extends, waiting_push, passed_by, none_back}
use Rattle.dual_walk.proofs.Counting.{push_count}
use Rattle.dual_walk.proofs.LawsFacts.{extends_none}
use Rattle.dual_walk.proofs.follow.pass_or_wait.Goals as goal

pub pass_over-requires-clause-over : goal.pass_over-requires-clause-over
pass_over-requires-clause-over g c P P' ok ok' =
    let from = get_some c.args.pairs.now.facts.items c.args.at c.requires.at in
    let back = c.in-Some.ensures.some in
    call_over c.args.both.now.old.now c.args.both.now.new.now c.args.pairs.now c.requires.moment P P' ok ok' c.args.at from.0 from.1 c.args.callee c.in-Some.back back.0 c.requires.callee back.1 back.2 back.3

pub returns-in-Some-clause-waiting : goal.returns-in-Some-clause-waiting
returns-in-Some-clause-waiting g c = on_ok_weaker c.pass_over.result (λ h. waiting_extends c.args.both.now.old.now c.args.both.now.new.now c.args.waiting.now c.pass_over.ensures.grows c.requires.waiting) c.pass_over.ensures.held

pub returns-in-Some-clause-own : goal.returns-in-Some-clause-own
returns-in-Some-clause-own g c = on_ok_weaker c.pass_over.result (λ h P P' d ok ok' e. inr (h P P' d ok ok' e)) c.pass_over.ensures.held

pub returns-in-Some-clause-over : goal.returns-in-Some-clause-over
returns-in-Some-clause-over g c = on_ok_weaker c.pass_over.result (λ h P P' d ok ok' e. passed_by P P' c.pass_over.new.pairs.facts.items d (h P P' d ok ok' e)) c.pass_over.ensures.held

pub returns-in-None-clause-waiting : goal.returns-in-None-clause-waiting
returns-in-None-clause-waiting g c =
    on_ok_weaker c.push.result
    (λ is. waiting_push c.args.both.now.old.now c.args.both.now.new.now c.args.pairs.now.facts.items c.args.waiting.now c.push.new.self c.args.callee.exit.old c.args.at c.requires.waiting within c.requires.at is
    (λ P P' ok ok'. let from = get_some c.args.pairs.now.facts.items c.args.at c.requires.at in call_waits c.args.both.now.old.now c.args.both.now.new.now c.args.pairs.now c.requires.moment P P' ok ok' c.args.at from.0 from.1 c.args.callee c.requires.callee))
    c.push.ensures.appended
  where
    within : c.args.callee.exit.old < length c.args.waiting.now
    within = let p = c.requires.waiting.points in let b = c.requires.old_exit in omega (arith, p, b)

pub returns-in-None-clause-waits : goal.returns-in-None-clause-waits
returns-in-None-clause-waits g c = on_ok_weaker c.push.result (λ is n j listed. lists_kept c.args.waiting.now c.push.new.self c.args.callee.exit.old c.args.at within is n j listed) c.push.ensures.appended
  where
    within : c.args.callee.exit.old < length c.args.waiting.now
    within = let p = c.requires.waiting.points in let b = c.requires.old_exit in omega (arith, p, b)

pub returns-in-None-clause-own : goal.returns-in-None-clause-own
returns-in-None-clause-own g c = on_ok_weaker c.push.result (λ is P P' d ok ok' e. inl (lists_added c.args.waiting.now c.push.new.self c.args.callee.exit.old c.args.at within is)) c.push.ensures.appended
  where
    within : c.args.callee.exit.old < length c.args.waiting.now
    within = let p = c.requires.waiting.points in let b = c.requires.old_exit in omega (arith, p, b)

pub returns-in-None-clause-over : goal.returns-in-None-clause-over
returns-in-None-clause-over g c = on_ok_weaker c.push.result (λ is P P' d ok ok' e. none_back P P' ok.valid ok'.valid c.args.pairs.now.facts.items d c.args.callee (λ f p p' at. c.requires.callee P P' f p p' d ok ok' e at) c.in-None.ensures.none) c.push.ensures.appended

pub returns-in-None-clause-cost : goal.returns-in-None-clause-cost
returns-in-None-clause-cost g c = let more = push_count c.args.waiting.now c.push.new.self c.args.callee.exit.old within c.push.result c.args.at c.push.ensures.appended c.push.ensures.unchanged in omega (arith, more)
  where
    within : c.args.callee.exit.old < length c.args.waiting.now
    within = let p = c.requires.waiting.points in let b = c.requires.old_exit in omega (arith, p, b)

pub returns-in-None-clause-grows : goal.returns-in-None-clause-grows
returns-in-None-clause-grows g c = extends_none
