-- What `record` writes: the history of a source's program and a suite.
use Rattle.std.specs.Prelude.{ℕ, ◌≡◌, List}
use Rattle.csub_semantics.specs.Syntax.{ProgramTree}
use Rattle.test_suite.specs.Tests.{TestParts}
use Rattle.test_history.specs.Histories.{HistoryParts, IsReadable}
use Rattle.test_history.specs.HistoryTexts.{history_text}
use Rattle.command_files.specs.Record.{IsHistory, IsSuiteFile}

-- the text of the history of a source, whose program is P, and of the suite that the bytes are; it can be read back
pub record IsRecorded (source bytes : List ℕ) (P : ProgramTree) (text : List ℕ) : Type 0 where
  pub tests : List TestParts
  pub reads : IsSuiteFile bytes tests
  pub history : HistoryParts
  pub of : IsHistory source P tests history
  pub is : text ≡ history_text history
  pub readable : IsReadable history
