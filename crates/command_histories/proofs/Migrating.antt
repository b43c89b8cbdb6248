-- From a history of version 2 to what is written, or to what is refused.
use Rattle.std.proofs.Common.{◌≡◌, ℕ, List, refl}
use Rattle.csub_semantics.specs.Syntax.{ProgramTree}
use Rattle.test_history.specs.Causes.{HasTextCause}
use Rattle.test_history.specs.Histories.{HistoryParts}
use Rattle.test_history.specs.HistoryTexts.{history_text}
use Rattle.test_history.specs.declared.error.HistoryTextError.TheVariants.{TooLong}
use Rattle.test_history.specs.declared.version.Version.TheVariants.{Second}
use Rattle.command_refusals.specs.declared.refusal.Product.TheVariants.{History}
use Rattle.command_refusals.specs.declared.refusal.Refusal.TheVariants as refusal
use Rattle.command_files.specs.Record.{IsHistoryFile}
use Rattle.command_histories.specs.Migrations.{IsMigration, IsMigrationCause}

module _ (source bytes : List ℕ) (P : ProgramTree) where
  pub is_migration : (history : HistoryParts) → IsHistoryFile Second source bytes P history → (text : List ℕ) → text ≡ history_text history → IsMigration source bytes P text
  is_migration history reads text is = record { history = history; reads = reads; is = is }

  pub migration_too_long : (history : HistoryParts) → IsHistoryFile Second source bytes P history → (count : ℕ) → HasTextCause history (TooLong count) → IsMigrationCause source bytes P (refusal.TooMuch History count)
  migration_too_long history reads count cause =
      let text = history_text history in
      (refl, record { bytes = text; text = is_migration history reads text refl; counted = cause.0; long = cause.1 })
