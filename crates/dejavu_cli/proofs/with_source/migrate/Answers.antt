use Rattle.std.proofs.Common.{refl, List, ℕ, subst, MatchResult}
use Rattle.csub_semantics.specs.Syntax.{program_tree}
use Rattle.command_histories.specs.Migrations.{IsMigration, IsMigrationCause}
use Rattle.command_words.specs.Words.{migrate_files}
use Rattle.command_refusals.specs.declared.refusal.Role.TheVariants as role
use Rattle.command_files.specs.Files.{file_and_one}
use Rattle.command_files.specs.Steps.{IsMade}
use Rattle.command_files.proofs.LawsRefusals.{passed_seen}
use Rattle.dejavu_cli.proofs.OpenLemmas.{second_refused, migrated}
use Rattle.dejavu_cli.proofs.with_source.migrate.Goals as goal

pub returns-clause-answer : goal.returns-clause-answer
returns-clause-answer g c =
    let P = program_tree c.in_ok-opened.opened.program in
    let sees = c.in_ok-opened.ensures.opened in (
      sees.0,
      sees.1,
      migrated sees.0 c.args.old_name.now c.args.history_name.now c.in_ok-opened.opened sees.2 c.migrated_text.result
          (subst (λ (b : List ℕ). MatchResult c.migrated_text.result (λ text. IsMade (IsMigration c.in_ok-opened.opened.source.items b P) text.items) (IsMigrationCause c.in_ok-opened.opened.source.items b P)) c.deref-2.ensures.value
          (subst (λ (s : List ℕ). MatchResult c.migrated_text.result (λ text. IsMade (IsMigration s c.deref-2.result.now P) text.items) (IsMigrationCause s c.deref-2.result.now P)) c.deref.ensures.value c.migrated_text.ensures)),
    )

pub returns-in_err-opened-clause-answer : goal.returns-in_err-opened-clause-answer
returns-in_err-opened-clause-answer g c =
    let sees = c.in_err-opened.ensures.opened in
    passed_seen _ _ c.from_residual.result _ _ c.in_err-opened.field-0.0 c.from_residual.ensures.1 (
      sees.0,
      sees.1,
      second_refused (migrate_files c.args.old_name.now c.args.history_name.now) sees.0 role.Old c.args.old_name.now c.args.history_name.now file_and_one refl (λ which why bad. bad) (λ fault. fault) c.in_err-opened.field-0.0 sees.2,
    )
