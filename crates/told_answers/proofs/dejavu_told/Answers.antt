use Rattle.std.proofs.Common.{Option, subst}
use Rattle.dv_outside.specs.Outside.{Files, AreTold}
use Rattle.command_words.specs.Words.{texts_of}
use Rattle.dejavu_cli.specs.declared.answer.End.TheVariants.{Whole, Differs, Open}
use Rattle.told_answers.proofs.TopLemmas.{answer_told, complete_told, headline_told}
use Rattle.told_answers.proofs.dejavu_told.Goals as goal

pub returns-clause-answer : goal.returns-clause-answer
returns-clause-answer g c =
    let are = subst (λ (told : Option Files). AreTold told (g.S.Shelf.answers c.dejavu.new.shelf)) c.dejavu.ensures.same (g.met.S.Shelf.agree c.dejavu.new.shelf) in
    answer_told (texts_of c.args.words.now) (g.S.Shelf.files c.args.shelf.now) (g.S.Shelf.answers c.args.shelf.now) (g.S.Shelf.answers c.dejavu.new.shelf) are
    (g.S.Shelf.faults c.args.shelf.now) (g.S.Shelf.faults c.dejavu.new.shelf) (g.met.S.Shelf.counted c.args.shelf.now) (g.met.S.Shelf.counted c.dejavu.new.shelf)
    (g.K.Sink.written c.args.out.now) (g.K.Sink.written c.dejavu.new.out) (g.K.Sink.taken c.args.out.now) (g.K.Sink.taken c.dejavu.new.out)
    (g.met.K.Sink.agree c.args.out.now c.args.out.now) (g.met.K.Sink.agree c.args.out.now c.dejavu.new.out) (g.met.K.Sink.agree c.dejavu.new.out c.args.out.now)
    (g.K.Sink.faults c.args.out.now) (g.K.Sink.faults c.dejavu.new.out) c.dejavu.result c.dejavu.ensures.answer

pub returns-clause-complete : goal.returns-clause-complete
returns-clause-complete g c =
    let are = subst (λ (told : Option Files). AreTold told (g.S.Shelf.answers c.dejavu.new.shelf)) c.dejavu.ensures.same (g.met.S.Shelf.agree c.dejavu.new.shelf) in
    complete_told (texts_of c.args.words.now) (g.S.Shelf.files c.args.shelf.now) (g.S.Shelf.answers c.args.shelf.now) (g.S.Shelf.answers c.dejavu.new.shelf) are
    (g.S.Shelf.faults c.args.shelf.now) (g.S.Shelf.faults c.dejavu.new.shelf) (g.met.S.Shelf.counted c.args.shelf.now) (g.met.S.Shelf.counted c.dejavu.new.shelf)
    (g.K.Sink.written c.args.out.now) (g.K.Sink.written c.dejavu.new.out) (g.K.Sink.taken c.args.out.now) (g.K.Sink.taken c.dejavu.new.out)
    (g.met.K.Sink.agree c.args.out.now c.args.out.now) (g.met.K.Sink.agree c.args.out.now c.dejavu.new.out) (g.met.K.Sink.agree c.dejavu.new.out c.args.out.now)
    (g.K.Sink.faults c.args.out.now) (g.K.Sink.faults c.dejavu.new.out) c.dejavu.result c.dejavu.ensures.answer

pub returns-clause-headline : goal.returns-clause-headline
returns-clause-headline g c = λ is.
    let are = subst (λ (told : Option Files). AreTold told (g.S.Shelf.answers c.dejavu.new.shelf)) c.dejavu.ensures.same (g.met.S.Shelf.agree c.dejavu.new.shelf) in
    headline_told (texts_of c.args.words.now) (g.S.Shelf.files c.args.shelf.now) (g.S.Shelf.answers c.args.shelf.now) (g.S.Shelf.answers c.dejavu.new.shelf) are
    (g.S.Shelf.faults c.args.shelf.now) (g.S.Shelf.faults c.dejavu.new.shelf) (g.met.S.Shelf.counted c.args.shelf.now) (g.met.S.Shelf.counted c.dejavu.new.shelf)
    (g.K.Sink.written c.args.out.now) (g.K.Sink.written c.dejavu.new.out) (g.K.Sink.taken c.args.out.now) (g.K.Sink.taken c.dejavu.new.out)
    (g.met.K.Sink.agree c.args.out.now c.args.out.now) (g.met.K.Sink.agree c.args.out.now c.dejavu.new.out) (g.met.K.Sink.agree c.dejavu.new.out c.args.out.now)
    (g.K.Sink.faults c.args.out.now) (g.K.Sink.faults c.dejavu.new.out) c.dejavu.result Whole (c.dejavu.ensures.headline is)

pub returns-clause-differs : goal.returns-clause-differs
returns-clause-differs g c = λ is.
    let are = subst (λ (told : Option Files). AreTold told (g.S.Shelf.answers c.dejavu.new.shelf)) c.dejavu.ensures.same (g.met.S.Shelf.agree c.dejavu.new.shelf) in
    headline_told (texts_of c.args.words.now) (g.S.Shelf.files c.args.shelf.now) (g.S.Shelf.answers c.args.shelf.now) (g.S.Shelf.answers c.dejavu.new.shelf) are
    (g.S.Shelf.faults c.args.shelf.now) (g.S.Shelf.faults c.dejavu.new.shelf) (g.met.S.Shelf.counted c.args.shelf.now) (g.met.S.Shelf.counted c.dejavu.new.shelf)
    (g.K.Sink.written c.args.out.now) (g.K.Sink.written c.dejavu.new.out) (g.K.Sink.taken c.args.out.now) (g.K.Sink.taken c.dejavu.new.out)
    (g.met.K.Sink.agree c.args.out.now c.args.out.now) (g.met.K.Sink.agree c.args.out.now c.dejavu.new.out) (g.met.K.Sink.agree c.dejavu.new.out c.args.out.now)
    (g.K.Sink.faults c.args.out.now) (g.K.Sink.faults c.dejavu.new.out) c.dejavu.result Differs (c.dejavu.ensures.differs is)

pub returns-clause-open : goal.returns-clause-open
returns-clause-open g c = λ is.
    let are = subst (λ (told : Option Files). AreTold told (g.S.Shelf.answers c.dejavu.new.shelf)) c.dejavu.ensures.same (g.met.S.Shelf.agree c.dejavu.new.shelf) in
    headline_told (texts_of c.args.words.now) (g.S.Shelf.files c.args.shelf.now) (g.S.Shelf.answers c.args.shelf.now) (g.S.Shelf.answers c.dejavu.new.shelf) are
    (g.S.Shelf.faults c.args.shelf.now) (g.S.Shelf.faults c.dejavu.new.shelf) (g.met.S.Shelf.counted c.args.shelf.now) (g.met.S.Shelf.counted c.dejavu.new.shelf)
    (g.K.Sink.written c.args.out.now) (g.K.Sink.written c.dejavu.new.out) (g.K.Sink.taken c.args.out.now) (g.K.Sink.taken c.dejavu.new.out)
    (g.met.K.Sink.agree c.args.out.now c.args.out.now) (g.met.K.Sink.agree c.args.out.now c.dejavu.new.out) (g.met.K.Sink.agree c.dejavu.new.out c.args.out.now)
    (g.K.Sink.faults c.args.out.now) (g.K.Sink.faults c.dejavu.new.out) c.dejavu.result Open (c.dejavu.ensures.open is)
