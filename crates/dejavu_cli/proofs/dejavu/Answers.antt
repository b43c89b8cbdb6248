use Rattle.std.proofs.Common.{refl, subst}
use Rattle.dejavu_cli.specs.Answers.{Says}
use Rattle.dejavu_cli.specs.declared.answer.End.TheVariants.{Whole, Differs, Open}
use Rattle.command_words.specs.Words.{command_of}
use Rattle.command_words.specs.Words.{texts_of}
use Rattle.dejavu_cli.proofs.CompleteLemmas.{done, complete_done, complete_refused, refused}
use Rattle.dejavu_cli.proofs.TopLemmas.{headline_is, no_usage, usage_is}
use Rattle.dejavu_cli.proofs.dejavu.Goals as goal

pub returns-in-Ok-clause-answer : goal.returns-in-Ok-clause-answer
returns-in-Ok-clause-answer g c =
    let before = g.K.Sink.taken c.args.out.now in
    let now = g.K.Sink.taken c.say.new.out in
    let says = subst (λ s. Says before now (g.K.Sink.faults c.args.out.now) (g.K.Sink.faults c.say.new.out) s c.in-Ok.field-0.text.items c.say.result) c.done_as.ensures
    (subst (λ text. Says before now (g.K.Sink.faults c.args.out.now) (g.K.Sink.faults c.say.new.out) c.done_as.result text c.say.result) c.deref.ensures.value c.say.ensures.says) in
    done (texts_of c.args.words.now) (g.S.Shelf.answers c.args.shelf.now) (g.S.Shelf.answers c.work.new.shelf)
    before now (g.K.Sink.faults c.args.out.now) (g.K.Sink.faults c.say.new.out) c.say.result c.in-Ok.field-0.end c.in-Ok.field-0.text.items c.in-Ok.ensures.answer says

pub returns-in-Ok-clause-complete : goal.returns-in-Ok-clause-complete
returns-in-Ok-clause-complete g c =
    let before = g.K.Sink.taken c.args.out.now in
    let now = g.K.Sink.taken c.say.new.out in
    let says = subst (λ s. Says before now (g.K.Sink.faults c.args.out.now) (g.K.Sink.faults c.say.new.out) s c.in-Ok.field-0.text.items c.say.result) c.done_as.ensures
    (subst (λ text. Says before now (g.K.Sink.faults c.args.out.now) (g.K.Sink.faults c.say.new.out) c.done_as.result text c.say.result) c.deref.ensures.value c.say.ensures.says) in
    complete_done (texts_of c.args.words.now) (g.S.Shelf.answers c.args.shelf.now) (g.S.Shelf.answers c.work.new.shelf)
    before now (g.K.Sink.faults c.args.out.now) (g.K.Sink.faults c.say.new.out) c.say.result c.in-Ok.field-0.end c.in-Ok.field-0.text.items c.in-Ok.ensures.answer says

pub returns-in-Err-clause-complete : goal.returns-in-Err-clause-complete
returns-in-Err-clause-complete g c =
    complete_refused (texts_of c.args.words.now) (g.S.Shelf.answers c.args.shelf.now) (g.S.Shelf.answers c.work.new.shelf)
    (g.K.Sink.taken c.args.out.now) (g.K.Sink.taken c.refuse.new.out) (g.K.Sink.faults c.args.out.now) (g.K.Sink.faults c.refuse.new.out) c.refuse.result c.in-Err.refusal c.in-Err.ensures.answer c.refuse.ensures.refuses

pub returns-in-Err-clause-answer : goal.returns-in-Err-clause-answer
returns-in-Err-clause-answer g c =
    refused (texts_of c.args.words.now) (g.S.Shelf.answers c.args.shelf.now) (g.S.Shelf.answers c.work.new.shelf)
    (g.K.Sink.taken c.args.out.now) (g.K.Sink.taken c.refuse.new.out) (g.K.Sink.faults c.args.out.now) (g.K.Sink.faults c.refuse.new.out) c.refuse.result c.in-Err.refusal c.in-Err.ensures.answer c.refuse.ensures.refuses

pub returns-in-Ok-clause-headline : goal.returns-in-Ok-clause-headline
returns-in-Ok-clause-headline g c =
    let before = g.K.Sink.taken c.args.out.now in
    let now = g.K.Sink.taken c.say.new.out in
    let says = subst (λ s. Says before now (g.K.Sink.faults c.args.out.now) (g.K.Sink.faults c.say.new.out) s c.in-Ok.field-0.text.items c.say.result) c.done_as.ensures
    (subst (λ text. Says before now (g.K.Sink.faults c.args.out.now) (g.K.Sink.faults c.say.new.out) c.done_as.result text c.say.result) c.deref.ensures.value c.say.ensures.says) in
    headline_is (texts_of c.args.words.now) (g.S.Shelf.answers c.args.shelf.now) (g.S.Shelf.answers c.work.new.shelf) before now (g.K.Sink.faults c.args.out.now) (g.K.Sink.faults c.say.new.out) c.say.result
    Whole c.in-Ok.field-0.end c.in-Ok.field-0.text.items c.in-Ok.ensures.answer says

pub returns-in-Ok-clause-differs : goal.returns-in-Ok-clause-differs
returns-in-Ok-clause-differs g c =
    let before = g.K.Sink.taken c.args.out.now in
    let now = g.K.Sink.taken c.say.new.out in
    let says = subst (λ s. Says before now (g.K.Sink.faults c.args.out.now) (g.K.Sink.faults c.say.new.out) s c.in-Ok.field-0.text.items c.say.result) c.done_as.ensures
    (subst (λ text. Says before now (g.K.Sink.faults c.args.out.now) (g.K.Sink.faults c.say.new.out) c.done_as.result text c.say.result) c.deref.ensures.value c.say.ensures.says) in
    headline_is (texts_of c.args.words.now) (g.S.Shelf.answers c.args.shelf.now) (g.S.Shelf.answers c.work.new.shelf) before now (g.K.Sink.faults c.args.out.now) (g.K.Sink.faults c.say.new.out) c.say.result
    Differs c.in-Ok.field-0.end c.in-Ok.field-0.text.items c.in-Ok.ensures.answer says

pub returns-in-Ok-clause-open : goal.returns-in-Ok-clause-open
returns-in-Ok-clause-open g c =
    let before = g.K.Sink.taken c.args.out.now in
    let now = g.K.Sink.taken c.say.new.out in
    let says = subst (λ s. Says before now (g.K.Sink.faults c.args.out.now) (g.K.Sink.faults c.say.new.out) s c.in-Ok.field-0.text.items c.say.result) c.done_as.ensures
    (subst (λ text. Says before now (g.K.Sink.faults c.args.out.now) (g.K.Sink.faults c.say.new.out) c.done_as.result text c.say.result) c.deref.ensures.value c.say.ensures.says) in
    headline_is (texts_of c.args.words.now) (g.S.Shelf.answers c.args.shelf.now) (g.S.Shelf.answers c.work.new.shelf) before now (g.K.Sink.faults c.args.out.now) (g.K.Sink.faults c.say.new.out) c.say.result
    Open c.in-Ok.field-0.end c.in-Ok.field-0.text.items c.in-Ok.ensures.answer says

pub returns-in-Ok-clause-usage : goal.returns-in-Ok-clause-usage
returns-in-Ok-clause-usage g c =
    let before = g.K.Sink.taken c.args.out.now in
    let now = g.K.Sink.taken c.say.new.out in
    let says = subst (λ s. Says before now (g.K.Sink.faults c.args.out.now) (g.K.Sink.faults c.say.new.out) s c.in-Ok.field-0.text.items c.say.result) c.done_as.ensures
    (subst (λ text. Says before now (g.K.Sink.faults c.args.out.now) (g.K.Sink.faults c.say.new.out) c.done_as.result text c.say.result) c.deref.ensures.value c.say.ensures.says) in
    no_usage (texts_of c.args.words.now) (g.S.Shelf.answers c.args.shelf.now) (g.S.Shelf.answers c.work.new.shelf) before now (g.K.Sink.faults c.args.out.now) (g.K.Sink.faults c.say.new.out) c.say.result
    c.in-Ok.field-0.end c.in-Ok.field-0.text.items says

pub returns-in-Err-clause-usage : goal.returns-in-Err-clause-usage
returns-in-Err-clause-usage g c =
    usage_is (texts_of c.args.words.now) (g.S.Shelf.answers c.args.shelf.now) (g.S.Shelf.answers c.work.new.shelf) (g.K.Sink.taken c.args.out.now) (g.K.Sink.taken c.refuse.new.out)
    (g.K.Sink.faults c.args.out.now) (g.K.Sink.faults c.refuse.new.out) c.refuse.result
    c.in-Err.refusal (command_of (texts_of c.args.words.now)) refl c.in-Err.ensures.answer c.refuse.ensures.refuses
