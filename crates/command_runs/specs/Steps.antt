-- What the steps of a command answer once its files are read.
use Rattle.std.specs.Prelude.{ℕ, ◌≡◌, List}
use Rattle.std.specs.List.{AllZip}
use Rattle.csub_semantics.specs.Syntax.{ProgramTree, program_tree}
use Rattle.csub_answers.specs.Accepted.{Accepted}
use Rattle.test_history.specs.Histories.{EntryParts}
use Rattle.test_history.specs.declared.version.Version.TheVariants.{Third}
use Rattle.test_select.specs.declared.choice.Choice.{Choice}
use Rattle.rerun_report.specs.Reruns.{differ_count}
use Rattle.rerun_report.specs.RerunTexts.{rerun_text}
use Rattle.rerun_report.specs.declared.text.RerunText.{RerunText}
use Rattle.test_history.specs.Entries.{IsEntry}
use Rattle.command_refusals.specs.declared.refusal.Product.TheVariants as product
use Rattle.command_refusals.specs.declared.refusal.Role.TheVariants as role
use Rattle.command_refusals.specs.declared.refusal.Refusal.{Refusal}
use Rattle.command_refusals.specs.declared.refusal.Refusal.TheVariants as refusal
use Rattle.command_files.specs.Causes.{NotAccepted, NoSuite, NoHistory}
use Rattle.command_files.specs.Steps.{IsTooMuch}
use Rattle.command_files.specs.declared.versions.Versions.{Versions}
use Rattle.command_runs.specs.Recorded.{IsRecorded}
use Rattle.command_runs.specs.Rerun.{selected_tests}
use Rattle.command_runs.specs.Explain.{HasNoTest}
use Rattle.command_runs.specs.Made.{HasBadMade}

-- a history isn't made for want of memory, where the bytes are no suite, or where it would have too many bytes
abbrev pub IsRecordCause : List ℕ → List ℕ → ProgramTree → Refusal → Type 0
IsRecordCause source bytes P refusal.Memory = Unit {0}
IsRecordCause source bytes P (refusal.Suite cause) = NoSuite bytes cause
IsRecordCause source bytes P (refusal.TooMuch which count) = (which ≡ product.History) × IsTooMuch (IsRecorded source bytes P) count
IsRecordCause source bytes P r = ⊥

-- that a test of this name lacks is told, or memory was wanted
abbrev pub IsNoTestOf : List ℕ → Refusal → Type 0
IsNoTestOf test refusal.Memory = Unit {0}
IsNoTestOf test (refusal.NoTest name) = name ≡ test
IsNoTestOf test r = ⊥

-- a test isn't explained for want of memory, where the bytes are no history of the source, or where the history lacks it
abbrev pub IsTestCause : List ℕ → List ℕ → ProgramTree → List ℕ → Refusal → Type 0
IsTestCause source bytes P test refusal.Memory = Unit {0}
IsTestCause source bytes P test (refusal.History cause) = NoHistory Third source bytes P cause
IsTestCause source bytes P test (refusal.NoTest name) = (name ≡ test) × HasNoTest source bytes P test
IsTestCause source bytes P test r = ⊥

-- the versions of two sources, each of one program alone
pub record AreMade (source source' : List ℕ) (versions : Versions) : Type 0 where
  pub old_is : versions.source.items ≡ source
  pub new_is : versions.new_source.items ≡ source'
  pub accepted : Accepted source (program_tree versions.old)
  pub new_accepted : Accepted source' (program_tree versions.new)
  pub alone : (Q : ProgramTree) → Accepted source Q → Q ≡ program_tree versions.old

-- they aren't read for want of memory, or where one isn't accepted
abbrev pub IsMadeRefusal : List ℕ → List ℕ → Refusal → Type 0
IsMadeRefusal source source' refusal.Memory = Unit {0}
IsMadeRefusal source source' (refusal.Source role.Old cause) = NotAccepted source cause
IsMadeRefusal source source' (refusal.Source role.New cause) = ((P : ProgramTree) × Accepted source P) × NotAccepted source' cause
IsMadeRefusal source source' r = ⊥

-- what is made isn't told for want of memory, or where a made source isn't accepted
abbrev pub IsMadeCause : ℕ → ℕ → Refusal → Type 0
IsMadeCause seed count refusal.Memory = Unit {0}
IsMadeCause seed count (refusal.Source which cause) = HasBadMade seed count which cause
IsMadeCause seed count r = ⊥

-- the selected tests ran on this program, and this is told of them
pub record HasReran (P' : ProgramTree) (entries : List EntryParts) (choices : List Choice) (told : RerunText) : Type 0 where
  pub results : List EntryParts
  pub ran : AllZip (IsEntry P') (selected_tests entries choices) results
  pub text : told.bytes.items ≡ rerun_text entries choices results
  pub count : told.differs ≡ differ_count entries choices results
