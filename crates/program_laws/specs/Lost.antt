-- No run of a valid program is lost.
use Rattle.std.specs.Prelude.{ℕ, ◌≢◌, List, IsSome}
use Rattle.csub_semantics.specs.Syntax.{ProgramTree}
use Rattle.csub_semantics.specs.Flows.{flow_of}
use Rattle.csub_semantics.specs.Runs.{after, nowhere, run_of}

-- at every moment a run stands at a point with a label and a way out for what its act asks for, or it has ended
abbrev pub NeverLost : ProgramTree → Type 0
NeverLost P = (input : List ℕ) (k : ℕ) → after (flow_of P) input k ≢ nowhere

-- a run has results within every budget of turns
abbrev pub HasResults : ProgramTree → Type 0
HasResults P = (input : List ℕ) (budget : ℕ) → IsSome (run_of (flow_of P) input budget)
