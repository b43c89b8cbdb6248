-- What bounds the results of a run.
use Rattle.std.specs.Prelude.{ℕ, ◌≡◌, ◌≤◌, ◌<◌, List, length, All, Some}
use Rattle.csub_semantics.specs.declared.status.Status.{Status}
use Rattle.csub_semantics.specs.declared.status.Status.TheVariants.{Exit, Trap, Turns}
use Rattle.csub_semantics.specs.Memory.{most_output}
use Rattle.csub_semantics.specs.Flows.{Flow}
use Rattle.csub_semantics.specs.Runs.{Results, run_of}

-- the status of a run that exits is a byte
abbrev pub IsExitStatus : Status → Type 0
IsExitStatus (Exit n) = n < 256
IsExitStatus (Trap t) = Unit {0}
IsExitStatus Turns = Unit {0}

-- a run takes no more turns than its budget, writes bytes alone and no more of them than a run may, and exits with a byte
pub record IsBounded (budget : ℕ) (r : Results) : Type 0 where
  pub turns : r.turns ≤ budget
  pub output : length r.output ≤ most_output
  pub bytes : All (λ b. b < 256) r.output
  pub status : IsExitStatus r.status

abbrev pub RunsAreBounded : Flow → Type 0
RunsAreBounded P = (input : List ℕ) (budget : ℕ) (r : Results) → run_of P input budget ≡ Some r → IsBounded budget r
