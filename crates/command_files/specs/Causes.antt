-- Why a file that a command names can't be used, each with what is told of it.
use Rattle.std.specs.Prelude.{ℕ, ◌≡◌, List, length, Some}
use Rattle.csub_semantics.specs.Syntax.{ProgramTree}
use Rattle.csub_semantics.specs.Flows.{edge_list}
use Rattle.csub_answers.specs.Accepted as sources
use Rattle.csub_answers.specs.Accepted.{Accepted}
use Rattle.csub_answers.specs.declared.error.SourceError.{SourceError}
use Rattle.test_suite.specs.Tests.{TestParts}
use Rattle.test_suite.specs.Causes as suites
use Rattle.test_suite.specs.declared.error.SuiteError.{SuiteError}
use Rattle.test_history.specs.Histories.{HistoryParts}
use Rattle.test_history.specs.Causes.{HasHistoryCause}
use Rattle.test_history.specs.declared.error.HistoryError.{HistoryError}
use Rattle.test_history.specs.declared.version.Version.{Version}
use Rattle.command_refusals.specs.Causes.{source_cause, suite_cause, history_cause}
use Rattle.command_refusals.specs.declared.source.SourceCause.{SourceCause}
use Rattle.command_refusals.specs.declared.suite.SuiteCause.{SuiteCause}
use Rattle.command_refusals.specs.declared.history.HistoryCause.{HistoryCause}
use Rattle.command_files.specs.Record.{IsSuiteFile, IsHistoryFile}

-- the source isn't accepted, and this is told of it
pub record NotAccepted (bytes : List ℕ) (cause : SourceCause) : Type 0 where
  pub none : (P : ProgramTree) → Accepted bytes P → ⊥
  pub error : SourceError
  pub why : sources.HasCause bytes error
  pub is : source_cause bytes error ≡ Some cause

-- the bytes are no suite, and this is told of them
pub record NoSuite (bytes : List ℕ) (cause : SuiteCause) : Type 0 where
  pub none : (tests : List TestParts) → IsSuiteFile bytes tests → ⊥
  pub error : SuiteError
  pub why : suites.HasCause bytes error
  pub is : suite_cause error ≡ Some cause

-- the bytes are no history of this source, whose program is P, in a version of the format, and this is told of them
pub record NoHistory (version : Version) (source bytes : List ℕ) (P : ProgramTree) (cause : HistoryCause) : Type 0 where
  pub none : (history : HistoryParts) → IsHistoryFile version source bytes P history → ⊥
  pub error : HistoryError
  pub why : HasHistoryCause version bytes source (length (edge_list P)) error
  pub is : history_cause error ≡ Some cause
