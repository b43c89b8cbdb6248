use Rattle.std.proofs.Common.{Option, MatchResult, sym, subst}
use Rattle.command_words.specs.Words.{Command, command_of, texts_of}
use Rattle.command_refusals.specs.declared.refusal.Refusal.TheVariants.{Memory}
use Rattle.command_files.specs.Files.{Sees}
use Rattle.command_files.proofs.LawsRefusals.{passed_seen}
use Rattle.dejavu_cli.specs.Texts.{HasTextOf}
use Rattle.dejavu_cli.specs.Causes.{HasCause}
use Rattle.dejavu_cli.proofs.OpenLemmas.{no_words, no_command}
use Rattle.dejavu_cli.proofs.work.work.Goals as goal

pub returns-in_err-command-clause-answer : goal.returns-in_err-command-clause-answer
returns-in_err-command-clause-answer g c =
    passed_seen _ _ c.from_residual.result _ _ Memory c.from_residual.ensures.1 (no_words (g.S.Shelf.answers c.args.shelf.now) (command_of (texts_of c.args.words.now)))

pub returns-in-None-clause-answer : goal.returns-in-None-clause-answer
returns-in-None-clause-answer g c =
    no_command (g.S.Shelf.answers c.args.shelf.now) (command_of (texts_of c.args.words.now)) (sym (rw c.in-None.is at c.in_ok-command.ensures.command))

pub returns-in-Some-clause-answer : goal.returns-in-Some-clause-answer
returns-in-Some-clause-answer g c =
    subst (λ (named : Option Command). Sees (g.S.Shelf.answers c.args.shelf.now) (g.S.Shelf.answers c.answer_to.new.shelf) (λ seen. MatchResult c.answer_to.result
    (λ answer. HasTextOf named seen answer.end answer.text.items)
    (HasCause named seen)))
    (rw c.in-Some.is at c.in_ok-command.ensures.command) c.answer_to.ensures.answer
