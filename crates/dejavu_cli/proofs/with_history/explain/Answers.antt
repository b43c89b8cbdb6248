use Rattle.std.proofs.Common.{refl, List, ℕ, subst, MatchResult}
use Rattle.csub_semantics.specs.Syntax.{program_tree}
use Rattle.command_runs.specs.Explain.{IsExplained}
use Rattle.command_runs.specs.Steps.{IsTestCause}
use Rattle.command_words.specs.Words.{explain_files}
use Rattle.command_files.proofs.LawsRefusals.{passed_seen}
use Rattle.dejavu_cli.proofs.OpenLemmas.{three_refused, explained}
use Rattle.dejavu_cli.proofs.with_history.explain.Goals as goal

pub returns-clause-answer : goal.returns-clause-answer
returns-clause-answer g c =
    let v = c.in_ok-opened.opened.versions in
    let sees = c.in_ok-opened.ensures.opened in (
      sees.0,
      sees.1,
      explained sees.0 c.args.files.old.now c.args.files.new.now c.args.files.history.now c.in_ok-opened.opened sees.2 c.args.test.now c.explanation.result
          (subst (λ (b : List ℕ). MatchResult c.explanation.result (λ text. IsExplained v.source.items v.new_source.items b (program_tree v.old) (program_tree v.new) c.args.test.now text.items) (IsTestCause v.source.items b (program_tree v.old) c.args.test.now)) c.deref.ensures.value c.explanation.ensures),
    )

pub returns-in_err-opened-clause-answer : goal.returns-in_err-opened-clause-answer
returns-in_err-opened-clause-answer g c =
    let sees = c.in_err-opened.ensures.opened in
    passed_seen _ _ c.from_residual.result _ _ c.in_err-opened.field-0.0 c.from_residual.ensures.1 (
      sees.0,
      sees.1,
      three_refused (explain_files c.args.files.old.now c.args.files.new.now c.args.files.history.now c.args.test.now) sees.0 c.args.files.old.now c.args.files.new.now c.args.files.history.now refl (λ which why bad. bad) (λ fault. fault) c.in_err-opened.field-0.0 sees.2,
    )

pub explanation-requires-clause-short : goal.explanation-requires-clause-short
explanation-requires-clause-short g c = c.in_ok-opened.ensures.opened.2.sources.accepted.reads.short

pub explanation-requires-clause-new_short : goal.explanation-requires-clause-new_short
explanation-requires-clause-new_short g c = c.in_ok-opened.ensures.opened.2.sources.new_accepted.reads.short

pub explanation-requires-clause-alone : goal.explanation-requires-clause-alone
explanation-requires-clause-alone g c = c.in_ok-opened.ensures.opened.2.sources.old_alone
