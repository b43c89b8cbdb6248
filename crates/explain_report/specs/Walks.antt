-- What `walk` writes: the dangerous edges of the old program beside the new one, and how many pairs of points are reached.
use Rattle.std.specs.Prelude.{ℕ, ◌≡◌, ◌≢◌, ◌↔◌, Bool, List, length, Some, IsTrue, Contains, AllPairs}
use Rattle.csub_objects.specs.Types.{Name}
use Rattle.csub_semantics.specs.Points.{PointTree}
use Rattle.csub_semantics.specs.Syntax.{ProgramTree}
use Rattle.csub_semantics.specs.Flows.{Edge, edge_list, flow_of}
use Rattle.csub_semantics.specs.Numbers.{edge_at}
use Rattle.csub_semantics.specs.Books.{Fact, fact, Reached, Dangerous}
use Rattle.edge_trace.specs.Rows.{has}
use Rattle.explain_report.specs.WalkTexts.{walk_text}

-- the row has the numbers of the dangerous edges
pub record IsDangerRow (P P' : ProgramTree) (row : List Bool) : Type 0 where
  pub edges : length row ≡ length (edge_list P)
  pub danger : (e : ℕ) (edge : Edge) → edge_at P e ≡ Some edge →
      IsTrue (has row e) ↔ Dangerous (flow_of P) (flow_of P') edge.function edge.from edge.exit

-- these are the reached pairs, each once
pub record AreReachedPairs (P P' : ProgramTree) (pairs : List Fact) : Type 0 where
  pub once : AllPairs (λ c d. c ≢ d) pairs
  pub each : (f : Name) (p p' : PointTree) → Contains pairs (fact f p p') ↔ Reached (flow_of P) (flow_of P') f p p'

-- the text of the walk of two programs, of which the old one has this source
pub record IsWalkText (source : List ℕ) (P P' : ProgramTree) (text : List ℕ) : Type 0 where
  pub row : List Bool
  pub danger : IsDangerRow P P' row
  pub pairs : List Fact
  pub reached : AreReachedPairs P P' pairs
  pub is : text ≡ walk_text P source row (length pairs)
