use Rattle.std.proofs.Common.{refl, List, ℕ, subst, MatchResult}
use Rattle.csub_semantics.specs.Syntax.{program_tree}
use Rattle.command_runs.specs.Recorded.{IsRecorded}
use Rattle.command_runs.specs.Steps.{IsRecordCause}
use Rattle.command_words.specs.Words.{record_files}
use Rattle.command_refusals.specs.declared.refusal.Role.TheVariants as role
use Rattle.command_files.specs.Files.{suite_and_one}
use Rattle.command_files.specs.Steps.{IsMade}
use Rattle.command_files.proofs.LawsRefusals.{passed_seen}
use Rattle.dejavu_cli.proofs.OpenLemmas.{second_refused, recorded}
use Rattle.dejavu_cli.proofs.with_source.record.Goals as goal

pub returns-clause-answer : goal.returns-clause-answer
returns-clause-answer g c =
    let P = program_tree c.in_ok-opened.opened.program in
    let sees = c.in_ok-opened.ensures.opened in (
      sees.0,
      sees.1,
      recorded sees.0 c.args.source_name.now c.args.suite_name.now c.args.runner.workers c.in_ok-opened.opened sees.2 c.record_text.result
          (subst (λ (b : List ℕ). MatchResult c.record_text.result (λ text. IsMade (IsRecorded c.in_ok-opened.opened.source.items b P) text.items) (IsRecordCause c.in_ok-opened.opened.source.items b P)) c.deref-2.ensures.value
          (subst (λ (s : List ℕ). MatchResult c.record_text.result (λ text. IsMade (IsRecorded s c.deref-2.result.now P) text.items) (IsRecordCause s c.deref-2.result.now P)) c.deref.ensures.value c.record_text.ensures)),
    )

pub returns-in_err-opened-clause-answer : goal.returns-in_err-opened-clause-answer
returns-in_err-opened-clause-answer g c =
    let sees = c.in_err-opened.ensures.opened in
    passed_seen _ _ c.from_residual.result _ _ c.in_err-opened.field-0.0 c.from_residual.ensures.1 (
      sees.0,
      sees.1,
      second_refused (record_files c.args.source_name.now c.args.suite_name.now c.args.runner.workers) sees.0 role.Source c.args.source_name.now c.args.suite_name.now suite_and_one refl (λ which why bad. bad) (λ fault. fault) c.in_err-opened.field-0.0 sees.2,
    )
