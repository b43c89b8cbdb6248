-- What `migrate` writes: a history of the source in version 2 of the format, in version 3.
use Rattle.std.specs.Prelude.{ℕ, ◌≡◌, List}
use Rattle.csub_semantics.specs.Syntax.{ProgramTree}
use Rattle.test_history.specs.Histories.{HistoryParts}
use Rattle.test_history.specs.HistoryTexts.{history_text}
use Rattle.test_history.specs.declared.version.Version.TheVariants.{Second}
use Rattle.command_refusals.specs.declared.refusal.Product.TheVariants.{History}
use Rattle.command_refusals.specs.declared.refusal.Refusal.{Refusal}
use Rattle.command_refusals.specs.declared.refusal.Refusal.TheVariants as refusal
use Rattle.command_files.specs.Causes.{NoHistory}
use Rattle.command_files.specs.Record.{IsHistoryFile}
use Rattle.command_files.specs.Steps.{IsTooMuch}

-- the text of the history in a file of the source, whose program is P
pub record IsMigration (source bytes : List ℕ) (P : ProgramTree) (text : List ℕ) : Type 0 where
  pub history : HistoryParts
  pub reads : IsHistoryFile Second source bytes P history
  pub is : text ≡ history_text history

-- it isn't made for want of memory, where the bytes are no such history, or where it would have too many bytes
abbrev pub IsMigrationCause : List ℕ → List ℕ → ProgramTree → Refusal → Type 0
IsMigrationCause source bytes P refusal.Memory = Unit {0}
IsMigrationCause source bytes P (refusal.History cause) = NoHistory Second source bytes P cause
IsMigrationCause source bytes P (refusal.TooMuch product count) = (product ≡ History) × IsTooMuch (IsMigration source bytes P) count
IsMigrationCause source bytes P r = ⊥
