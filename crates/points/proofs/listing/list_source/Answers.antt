use Rattle.std.proofs.Common.{subst}
use Rattle.points.specs.Answers.{Says}
use Rattle.points.specs.declared.status.Ended.TheVariants.{Done}
use Rattle.points.proofs.AnswerLemmas.{done, refused}
use Rattle.points.proofs.listing.list_source.Goals as goal

pub returns-in-Ok-clause-answer : goal.returns-in-Ok-clause-answer
returns-in-Ok-clause-answer g c =
    let says = subst (λ text. Says (g.K.Sink.taken c.args.out.now) (g.K.Sink.taken c.say.new.out) (g.K.Sink.faults c.args.out.now) (g.K.Sink.faults c.say.new.out) Done text c.say.result)
    c.deref.ensures.value c.say.ensures.says in
    done (g.S.Shelf.answers c.args.shelf.now) (g.S.Shelf.answers c.listing.new.shelf) (g.K.Sink.taken c.args.out.now) (g.K.Sink.taken c.say.new.out)
    (g.K.Sink.faults c.args.out.now) (g.K.Sink.faults c.say.new.out) c.say.result c.args.name.now c.in-Ok.text.items c.in-Ok.ensures.answer says

pub returns-in-Err-clause-answer : goal.returns-in-Err-clause-answer
returns-in-Err-clause-answer g c =
    refused (g.S.Shelf.answers c.args.shelf.now) (g.S.Shelf.answers c.listing.new.shelf) (g.K.Sink.taken c.args.out.now) (g.K.Sink.taken c.refuse.new.out)
    (g.K.Sink.faults c.args.out.now) (g.K.Sink.faults c.refuse.new.out) c.refuse.result c.args.name.now c.in-Err.refusal c.in-Err.ensures.answer c.refuse.ensures.refuses
