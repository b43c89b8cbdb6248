-- Two runs in lockstep, over a set of pairs that is claimed and a set of old edges that are not to be crossed.
use Rattle.std.specs.Prelude.{ℕ, ◌≡◌, List, All, Some, Contains}
use Rattle.std.specs.List.{AllZip}
use Rattle.csub_semantics.specs.declared.status.Status.{Status}
use Rattle.csub_objects.specs.Types.{Name}
use Rattle.csub_semantics.specs.Points.{PointTree, ExitTree}
use Rattle.csub_semantics.specs.Flows.{Flow, Edge}
use Rattle.csub_semantics.specs.Acts.{Store}
use Rattle.csub_semantics.specs.Runs.{Frame, Standing, Turn, stops, turn, running, after, Results, run_of}
use Rattle.csub_semantics.specs.Books.{Fact, fact, IsImage}
use Rattle.call_walk.specs.Shared.{shared, Agree}

-- a set of facts, and a set of edges
abbrev pub Claim : Type 1
Claim = Name → PointTree → PointTree → Type 0

abbrev pub Edges : Type 1
Edges = Name → PointTree → ExitTree → Type 0

-- the facts of a list, and the edges of a list
abbrev pub claims : List Fact → Claim
claims facts f p p' = Contains facts (fact f p p')

abbrev pub among : List Edge → Edges
among es f p x = Contains es (record { function = f; from = p; exit = x })

-- none of the crossed edges is in the set
abbrev pub CrossesNone : Edges → List Edge → Type 0
CrossesNone E crossed = All (λ e. E e.function e.from e.exit → ⊥) crossed

-- two frames at one height: of one function, with one result, at a pair of the claim
pub record AlikeFrame (C : Claim) (a b : Frame) : Type 0 where
  pub function : a.function ≡ b.function
  pub result : a.result ≡ b.result
  pub pair : C a.function a.point b.point

-- as many frames, alike at each height, and stores that agree on what is shared
pub record Alike (C : Claim) (P P' : Flow) (at at' : Standing) : Type 0 where
  pub frames : AllZip (AlikeFrame C) at.frames at'.frames
  pub stores : Agree (shared P P') at.store at'.store

-- the turn ends the run, with this status and this output
pub record Halts (status : Status) (output : List ℕ) (t : Turn) : Type 0 where
  pub store : Store
  pub is : t ≡ stops status store
  pub written : store.output ≡ output

-- Beside an old run that has crossed these edges and stands there after k turns, the new run stands alike after as many
-- turns, and has crossed images of these edges, in the same order. Where the next turn ends the old run it ends the new
-- one, with the same status and output.
pub record Beside (C : Claim) (P P' : Flow) (input : List ℕ) (k : ℕ) (crossed : List Edge) (at : Standing) : Type 0 where
  pub crossed' : List Edge
  pub at' : Standing
  pub runs : after P' input k ≡ running crossed' at'
  pub alike : Alike C P P' at at'
  pub images : AllZip (IsImage C) crossed crossed'
  pub ends : (t : Status) (output : List ℕ) → Halts t output (turn P at) → Halts t output (turn P' at')

-- as long as the old run crosses no edge of the set, the new run goes in lockstep with it
abbrev pub Lockstep : Flow → Flow → Claim → Edges → Type 0
Lockstep P P' C E =
    (input : List ℕ) (k : ℕ) (crossed : List Edge) (at : Standing) →
    after P input k ≡ running crossed at → CrossesNone E crossed → Beside C P P' input k crossed at

-- status, output and number of turns are the same, and the edges that were crossed are images
pub record SameResults (C : Claim) (r r' : Results) : Type 0 where
  pub status : r.status ≡ r'.status
  pub output : r.output ≡ r'.output
  pub turns : r.turns ≡ r'.turns
  pub images : AllZip (IsImage C) r.crossed r'.crossed

-- where the old run within a budget crosses no edge of the set, the new run within it has the same results
abbrev pub SameRuns : Flow → Flow → Claim → Edges → Type 0
SameRuns P P' C E =
    (input : List ℕ) (budget : ℕ) (r : Results) → run_of P input budget ≡ Some r → CrossesNone E r.crossed →
    (r' : Results) × (run_of P' input budget ≡ Some r') × SameResults C r r'
