use Rattle.std.proofs.Common.{refl}
use Rattle.csub_semantics.specs.Flows.{flow_of}
use Rattle.dual_walk.specs.Rest.{facts_of}
use Rattle.dual_walk.proofs.LawsLists.{contained}
use Rattle.dual_walk.proofs.LawsRest.{rest_book}
use Rattle.dual_walk.proofs.LawsReaching.{calls_or_not}
use Rattle.call_walk.proofs.Marking.{back_at}
use Rattle.call_walk.proofs.danger.comes_back.Goals as goal

pub callee_at-requires-clause-point : goal.callee_at-requires-clause-point
callee_at-requires-clause-point c =
    let i = contained (facts_of c.args.walk.now) c.args.from c.requires.among in
    ((rest_book c.args.both.now.old.now c.args.both.now.new.now c.args.walk.now c.requires.rests).within i.0 c.args.from i.1).old

pub returns-in-Some : goal.returns-in-Some
returns-in-Some c P P' f p p' ok ok' at same =
    let a = c.in-Some.ensures.callee P P' f p p' ok ok' same at.old in
    let b = back_at P P' ok.valid ok'.valid (facts_of c.args.walk.now) f p c.in-Some.callee a in
    (λ t. b.0 (c.has.ensures.0 t), λ x. c.has.ensures.1 (b.1 x))

pub returns-in-None : goal.returns-in-None
returns-in-None c P P' f p p' ok ok' at same = (λ t g called. absurd (calls_or_not (flow_of P) f p g (c.in-None.ensures.callee P P' f p p' ok ok' same at.old) called), λ x. refl)
