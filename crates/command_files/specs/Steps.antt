-- What the steps of a command answer once its files are read.
use Rattle.std.specs.Prelude.{ℕ, ◌≡◌, ◌<◌, ◌≤◌, List, length}
use Rattle.std.specs.List.{AllZip}
use Rattle.csub_semantics.specs.Syntax.{ProgramTree}
use Rattle.flow_graph.specs.Graph.{IsGraphOf}
use Rattle.call_walk.specs.declared.answer.WalkResult.{WalkResult}
use Rattle.call_walk.specs.Walks.{IsWalk}
use Rattle.test_suite.specs.Tests.{TestParts}
use Rattle.test_history.specs.Histories.{EntryParts, HistoryParts}
use Rattle.test_history.specs.HistoryTexts.{history_text}
use Rattle.test_history.specs.declared.version.Version.{Version}
use Rattle.test_history.specs.declared.version.Version.TheVariants.{Third}
use Rattle.test_select.specs.declared.choice.Choice.{Choice}
use Rattle.test_select.specs.Selection.{Chooses}
use Rattle.test_history.specs.Entries.{IsEntry}
use Rattle.command_refusals.specs.declared.refusal.Product.{Product}
use Rattle.command_refusals.specs.declared.refusal.Refusal.{Refusal}
use Rattle.command_refusals.specs.declared.refusal.Refusal.TheVariants as refusal
use Rattle.command_files.specs.Causes.{NoSuite, NoHistory}
use Rattle.command_files.specs.Record.{IsHistoryOf, IsHistoryFile, IsSuiteFile}
use Rattle.command_files.specs.Choices.{IsChosen}
use Rattle.command_files.specs.declared.versions.Graphs.{Graphs}
use Rattle.command_files.specs.declared.choosing.Selection.{Selection}

-- a suite isn't read for want of memory, or where it is none
abbrev pub IsSuiteCause : List ℕ → Refusal → Type 0
IsSuiteCause bytes refusal.Memory = Unit {0}
IsSuiteCause bytes (refusal.Suite cause) = NoSuite bytes cause
IsSuiteCause bytes r = ⊥

-- the bytes are the text of this history of the source, and of no other
pub record IsOnlyHistory (version : Version) (source bytes : List ℕ) (P : ProgramTree) (history : HistoryParts) : Type 0 where
  pub file : IsHistoryFile version source bytes P history
  pub only : (other : HistoryParts) → IsHistoryFile version source bytes P other → history ≡ other

-- a history isn't read for want of memory, or where the bytes are no history of the source
abbrev pub IsHistoryCause : Version → List ℕ → List ℕ → ProgramTree → Refusal → Type 0
IsHistoryCause version source bytes P refusal.Memory = Unit {0}
IsHistoryCause version source bytes P (refusal.History cause) = NoHistory version source bytes P cause
IsHistoryCause version source bytes P r = ⊥

-- the graphs are those of two programs
pub record AreGraphs (P P' : ProgramTree) (graphs : Graphs) : Type 0 where
  pub old : IsGraphOf graphs.old P
  pub new : IsGraphOf graphs.new P'

-- the walk of two graphs, whatever programs they are of
abbrev pub IsWalkOf : Graphs → WalkResult → Type 0
IsWalkOf graphs walked = (P P' : ProgramTree) → IsGraphOf graphs.old P → IsGraphOf graphs.new P' → IsWalk P P' walked

-- the walk of two programs, and a choice for each entry by its dangerous edges
pub record HasWalked (P P' : ProgramTree) (entries : List EntryParts) (walked : WalkResult) (choices : List Choice) : Type 0 where
  pub walk : IsWalk P P' walked
  pub chooses : AllZip (λ entry choice. Chooses entry.crossed walked.danger choice) entries choices
  pub many : length choices ≡ length entries

-- these are the choices for the history in a file of the old source; where the bytes are what `record` writes for that source
-- and a suite, the entries are those of its tests
pub record HasChosen (old bytes : List ℕ) (P P' : ProgramTree) (history : HistoryParts) (choices : List Choice) : Type 0 where
  pub chosen : IsChosen old bytes P P' history choices
  pub recorded : (suite : List ℕ) (tests : List TestParts) (other : HistoryParts) → IsSuiteFile suite tests → IsHistoryOf old tests other →
      bytes ≡ history_text other → AllZip (IsEntry P) tests history.entries

-- the history that the bytes are, the graphs and the walk of the versions, and the choices
pub record IsSelectionOf (old bytes : List ℕ) (P P' : ProgramTree) (selection : Selection) : Type 0 where
  pub reads : IsOnlyHistory Third old bytes P selection.history
  pub graphs : AreGraphs P P' selection.graphs
  pub walks : IsWalkOf selection.graphs selection.chosen.walked
  pub walked : HasWalked P P' selection.history.entries selection.chosen.walked selection.chosen.choices.items
  pub chosen : HasChosen old bytes P P' selection.history selection.chosen.choices.items

-- ---- what a command makes, which may have 134,217,728 bytes

abbrev pub most_made : ℕ
most_made = 134217728

-- it is made
pub record IsMade (IsText : List ℕ → Type 0) (bytes : List ℕ) : Type 0 where
  pub text : IsText bytes
  pub short : length bytes ≤ most_made

-- it would have more bytes, so many
pub record IsTooMuch (IsText : List ℕ → Type 0) (count : ℕ) : Type 0 where
  pub bytes : List ℕ
  pub text : IsText bytes
  pub counted : count ≡ length bytes
  pub long : most_made < count

-- it isn't made for want of memory, or where it would have too many bytes
abbrev pub IsTooMuchCause : Product → (List ℕ → Type 0) → Refusal → Type 0
IsTooMuchCause which IsText refusal.Memory = Unit {0}
IsTooMuchCause which IsText (refusal.TooMuch product count) = (product ≡ which) × IsTooMuch IsText count
IsTooMuchCause which IsText r = ⊥
