use Rattle.std.proofs.Common.{◌≡◌, refl, Bool, List, ℕ, subst, MatchResult}
use Rattle.csub_semantics.specs.Syntax.{program_tree}
use Rattle.test_history.specs.declared.version.Version.TheVariants.{Third}
use Rattle.command_files.specs.Steps.{IsHistoryCause}
use Rattle.command_runs.specs.Rerun.{IsRerun}
use Rattle.dejavu_cli.specs.Texts.{end_of_rerun}
use Rattle.command_words.specs.Words.{rerun_files}
use Rattle.command_files.proofs.LawsRefusals.{passed_seen}
use Rattle.dejavu_cli.proofs.OpenLemmas.{three_refused, reran}
use Rattle.dejavu_cli.proofs.with_history.rerun.Goals as goal

pub returns-clause-answer : goal.returns-clause-answer
returns-clause-answer g c =
    let v = c.in_ok-opened.opened.versions in
    let sees = c.in_ok-opened.ensures.opened in (
      sees.0,
      sees.1,
      reran sees.0 c.args.files.old.now c.args.files.new.now c.args.files.history.now c.in_ok-opened.opened sees.2 c.args.runner.workers c.rerun_answer.result
          (subst (λ (b : List ℕ). MatchResult c.rerun_answer.result (λ answer. (differs : Bool) × (answer.end ≡ end_of_rerun differs) × IsRerun v.source.items b (program_tree v.old) (program_tree v.new) differs answer.text.items) (IsHistoryCause Third v.source.items b (program_tree v.old))) c.deref.ensures.value c.rerun_answer.ensures),
    )

pub returns-in_err-opened-clause-answer : goal.returns-in_err-opened-clause-answer
returns-in_err-opened-clause-answer g c =
    let sees = c.in_err-opened.ensures.opened in
    passed_seen _ _ c.from_residual.result _ _ c.in_err-opened.field-0.0 c.from_residual.ensures.1 (
      sees.0,
      sees.1,
      three_refused (rerun_files c.args.files.old.now c.args.files.new.now c.args.files.history.now c.args.runner.workers) sees.0 c.args.files.old.now c.args.files.new.now c.args.files.history.now refl (λ which why bad. bad) (λ fault. fault) c.in_err-opened.field-0.0 sees.2,
    )

pub rerun_answer-requires-clause-alone : goal.rerun_answer-requires-clause-alone
rerun_answer-requires-clause-alone g c = λ lifetimes outlive. c.in_ok-opened.ensures.opened.2.sources.old_alone
