-- What a machine is seen as, and what its calls answer: all of it is said of the moment of its run.
use Rattle.std.specs.Prelude.{ℕ, List, [], Option, Some, None}
use Rattle.csub_semantics.specs.declared.status.Status.{Status}
use Rattle.csub_semantics.specs.Flows.{flow_of, Edge}
use Rattle.csub_semantics.specs.Runs.{Moment, running, ended, nowhere, after, Results}
use Rattle.csub_semantics.specs.Syntax.{ProgramParts, program_tree}

-- a program, its input, and how many turns were asked for
pub record Seen : Type 0 where
  pub program : ProgramParts
  pub input : List ℕ
  pub done : ℕ

-- the moment of the run after so many turns
abbrev pub moment_of : Seen → Moment
moment_of m = after (flow_of (program_tree m.program)) m.input m.done

-- the run still goes on
abbrev pub IsRunningAt : Moment → Type 0
IsRunningAt (running es at) = Unit {0}
IsRunningAt (ended es n t s) = ⊥
IsRunningAt nowhere = ⊥

abbrev pub IsRunning : Seen → Type 0
IsRunning m = IsRunningAt (moment_of m)

-- the status with which the run has ended, if it has
abbrev pub status_at : Moment → Option Status
status_at (running es at) = None
status_at (ended es n t s) = Some t
status_at nowhere = None

abbrev pub status_of : Seen → Option Status
status_of m = status_at (moment_of m)

-- what was written by a moment
abbrev pub output_of : Moment → List ℕ
output_of (running es at) = at.store.output
output_of (ended es n t s) = s.output
output_of nowhere = []

-- how many turns were done by the moment after k turns
abbrev pub turns_of : ℕ → Moment → ℕ
turns_of k (running es at) = k
turns_of k (ended es n t s) = n
turns_of k nowhere = k

-- the edges that were crossed by a moment
abbrev pub crossed_of : Moment → List Edge
crossed_of (running es at) = es
crossed_of (ended es n t s) = es
crossed_of nowhere = []

-- the results of a run with this status that a machine shows
abbrev pub results_of : Status → Seen → Results
results_of status m = record {
  status = status;
  output = output_of (moment_of m);
  turns = turns_of m.done (moment_of m);
  crossed = crossed_of (moment_of m);
}
