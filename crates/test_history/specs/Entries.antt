-- What the run of a test gives.
use Rattle.std.specs.Prelude.{ℕ, ◌≡◌, ◌↔◌, Bool, List, length, Some, IsTrue}
use Rattle.csub_semantics.specs.Syntax.{ProgramTree}
use Rattle.csub_semantics.specs.Flows.{flow_of, edge_list}
use Rattle.csub_semantics.specs.Numbers.{IsCrossed}
use Rattle.csub_semantics.specs.Runs.{Results, run_of}
use Rattle.edge_trace.specs.Rows.{has}
use Rattle.test_suite.specs.Tests.{TestParts}
use Rattle.test_history.specs.Histories.{EntryParts}

-- the row has the edges that a run crossed, and no others
pub record IsRowOf (P : ProgramTree) (results : Results) (row : List Bool) : Type 0 where
  pub edges : length row ≡ length (edge_list P)
  pub crossed : (e : ℕ) → IsTrue (has row e) ↔ IsCrossed P results.crossed e

-- the entry is the test with what its run on the program gave
pub record IsEntry (P : ProgramTree) (asked : TestParts) (entry : EntryParts) : Type 0 where
  pub test : entry.test ≡ asked
  pub results : Results
  pub run : run_of (flow_of P) asked.input asked.budget ≡ Some results
  pub status : entry.status ≡ results.status
  pub turns : entry.turns ≡ results.turns
  pub output : entry.output ≡ results.output
  pub crossed : IsRowOf P results entry.crossed
