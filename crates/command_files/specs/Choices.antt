-- Which tests of a history of the old source have to run again on the new one.
use Rattle.std.specs.Prelude.{ℕ, ◌≡◌, ◌<◌, Bool, List, Some, IsTrue}
use Rattle.std.specs.List.{AllZip}
use Rattle.csub_semantics.specs.Syntax.{ProgramTree}
use Rattle.csub_semantics.specs.Flows.{Edge, flow_of}
use Rattle.csub_semantics.specs.Numbers.{edge_at}
use Rattle.csub_semantics.specs.Runs.{Results, run_of}
use Rattle.csub_semantics.specs.Books.{Dangerous}
use Rattle.edge_trace.specs.Rows.{has}
use Rattle.test_suite.specs.Tests.{TestParts}
use Rattle.test_history.specs.Histories.{EntryParts, HistoryParts}
use Rattle.test_history.specs.HistoryTexts.{history_text}
use Rattle.test_history.specs.declared.version.Version.TheVariants.{Third}
use Rattle.test_select.specs.declared.choice.Choice.{Choice}
use Rattle.test_select.specs.declared.choice.Choice.TheVariants.{Selected, Left}
use Rattle.command_files.specs.Record.{IsHistoryOf, IsHistoryFile, IsSuiteFile}

-- the old edge with this number was crossed, and it is dangerous
pub record CrossesDanger (P P' : ProgramTree) (crossed : List Bool) (e : ℕ) : Type 0 where
  pub crosses : IsTrue (has crossed e)
  pub edge : Edge
  pub numbered : edge_at P e ≡ Some edge
  pub danger : Dangerous (flow_of P) (flow_of P') edge.function edge.from edge.exit

-- a test is selected where its recorded run crossed a dangerous edge, for the least of these; it is left exactly where it
-- crossed none
abbrev pub IsChoice : ProgramTree → ProgramTree → EntryParts → Choice → Type 0
IsChoice P P' entry (Selected e) = CrossesDanger P P' entry.crossed e × ((d : ℕ) → d < e → CrossesDanger P P' entry.crossed d → ⊥)
IsChoice P P' entry Left = (e : ℕ) → CrossesDanger P P' entry.crossed e → ⊥

-- the runs of a test on both programs, with its input and its budget, give the same output, status and number of turns
pub record BehavesTheSame (P P' : ProgramTree) (test : TestParts) : Type 0 where
  pub old : Results
  pub new : Results
  pub run_old : run_of (flow_of P) test.input test.budget ≡ Some old
  pub run_new : run_of (flow_of P') test.input test.budget ≡ Some new
  pub output : new.output ≡ old.output
  pub status : new.status ≡ old.status
  pub turns : new.turns ≡ old.turns

-- Safety: where the bytes are the history that `record` writes for the old source and a suite, each test of the suite
-- that is left behaves the same on the new program
abbrev pub IsSafe : List ℕ → List ℕ → ProgramTree → ProgramTree → List Choice → Type 0
IsSafe old bytes P P' choices =
    (suite : List ℕ) (tests : List TestParts) (recorded : HistoryParts) →
    IsSuiteFile suite tests → IsHistoryOf old tests recorded → bytes ≡ history_text recorded →
    AllZip (λ test choice. choice ≡ Left → BehavesTheSame P P' test) tests choices

-- the choices for the entries of a history of the old source, whose program is P
pub record IsChosen (old bytes : List ℕ) (P P' : ProgramTree) (history : HistoryParts) (choices : List Choice) : Type 0 where
  pub reads : IsHistoryFile Third old bytes P history
  pub chosen : AllZip (IsChoice P P') history.entries choices
  pub safe : IsSafe old bytes P P' choices
