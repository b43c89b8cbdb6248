use Rattle.std.proofs.Common.{sym, subst}
use Rattle.points.specs.Words.{source_name, texts_of}
use Rattle.points.proofs.AnswerLemmas.{Gives, usage}
use Rattle.points.proofs.listing.list_points.Goals as goal

pub returns-in-Some-clause-answer : goal.returns-in-Some-clause-answer
returns-in-Some-clause-answer g c =
    subst (λ name. Gives name (g.S.Shelf.answers c.args.shelf.now) (g.S.Shelf.answers c.list_source.new.shelf)
    (g.K.Sink.taken c.args.out.now) (g.K.Sink.taken c.list_source.new.out) (g.K.Sink.faults c.args.out.now) (g.K.Sink.faults c.list_source.new.out) c.list_source.result)
    c.in-Some.ensures c.list_source.ensures.answer

pub returns-in-None-clause-answer : goal.returns-in-None-clause-answer
returns-in-None-clause-answer g c =
    usage (g.S.Shelf.answers c.args.shelf.now) (g.K.Sink.taken c.args.out.now) (g.K.Sink.faults c.args.out.now) (source_name (texts_of c.args.words.now)) (sym c.in-None.ensures)
