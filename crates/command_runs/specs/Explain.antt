-- What `explain` writes of a test of a history.
use Rattle.std.specs.Prelude.{ℕ, ◌≡◌, List, Some, slice_get}
use Rattle.csub_semantics.specs.Syntax.{ProgramTree}
use Rattle.test_history.specs.Histories.{EntryParts, HistoryParts}
use Rattle.test_select.specs.declared.choice.Choice.{Choice}
use Rattle.explain_report.specs.Explanations.{IsExplainText}
use Rattle.test_history.specs.declared.version.Version.TheVariants.{Third}
use Rattle.command_files.specs.Record.{IsHistoryFile}
use Rattle.command_files.specs.Choices.{IsChosen}

-- the entry at a place is that of the test of this name
pub record IsTestAt (entries : List EntryParts) (test : List ℕ) (place : ℕ) : Type 0 where
  pub entry : EntryParts
  pub stands : slice_get entries place ≡ Some entry
  pub named : entry.test.name ≡ test

abbrev pub HasTest : List EntryParts → List ℕ → Type 0
HasTest entries test = (place : ℕ) × IsTestAt entries test place

-- the text of `explain` for the old source and the new one, with their programs, the bytes of a history file and a test: it explains
-- the choice that `select` makes for this test
pub record IsExplained (old new bytes : List ℕ) (P P' : ProgramTree) (test text : List ℕ) : Type 0 where
  pub history : HistoryParts
  pub choices : List Choice
  pub chosen : IsChosen old bytes P P' history choices
  pub place : ℕ
  pub at : IsTestAt history.entries test place
  pub choice : Choice
  pub made : slice_get choices place ≡ Some choice
  pub is : IsExplainText old new P P' at.entry choice text

-- the bytes are a history of the old source, which has no test of this name
pub record HasNoTest (old bytes : List ℕ) (P : ProgramTree) (test : List ℕ) : Type 0 where
  pub history : HistoryParts
  pub reads : IsHistoryFile Third old bytes P history
  pub none : (other : HistoryParts) → IsHistoryFile Third old bytes P other → HasTest other.entries test → ⊥
