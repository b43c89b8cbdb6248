-- The claim of a certificate by names: pairs of points, and edges at which the versions may part.
use Rattle.std.specs.Prelude.{◌≡◌, ℕ, Bool, IsTrue, List, Some, slice_get}
use Rattle.csub_objects.specs.Types.{Name}
use Rattle.csub_semantics.specs.Points.{PointTree, ExitTree}
use Rattle.csub_semantics.specs.Syntax.{ProgramTree}
use Rattle.csub_semantics.specs.Flows.{flow_of}
use Rattle.csub_semantics.specs.Numbers.{edge_at}
use Rattle.csub_semantics.specs.Books.{SameLabel, Closed}
use Rattle.edge_trace.specs.Rows.{has}
use Rattle.flow_graph.specs.Graph.{Tables, point_count, edge_count}
use Rattle.dual_walk.specs.Held.{AreAt}
use Rattle.cert_text.specs.declared.bounds.Bounds.{Bounds}
use Rattle.cert_text.specs.declared.pair.Pair.{Pair}

-- the pair of points of f is claimed: its numbers stand among the pairs
pub record IsClaimed (P P' : ProgramTree) (pairs : List Pair) (f : Name) (p p' : PointTree) : Type 0 where
  pub place : ℕ
  pub pair : Pair
  pub stands : slice_get pairs place ≡ Some pair
  pub at : AreAt P P' pair.old pair.new f p p'

-- the edge is in the row
pub record IsInRow (P : ProgramTree) (row : List Bool) (f : Name) (p : PointTree) (x : ExitTree) : Type 0 where
  pub edge : ℕ
  pub numbered : edge_at P edge ≡ Some (record { function = f; from = p; exit = x })
  pub marked : IsTrue (has row edge)

-- the points of a pair are of functions with one name
pub record AreNamedAlike (P P' : ProgramTree) (pair : Pair) : Type 0 where
  pub function : Name
  pub point : PointTree
  pub other : PointTree
  pub at : AreAt P P' pair.old pair.new function point other

-- and they have one label
pub record AreAlike (P P' : ProgramTree) (pair : Pair) : Type 0 where
  pub named : AreNamedAlike P P' pair
  pub same : SameLabel (flow_of P) (flow_of P') named.function named.point named.other

-- each pair is of points that are alike, and nothing leads from a claimed pair to one that isn't but by an edge of the row
pub record IsClosedClaim (P P' : ProgramTree) (row : List Bool) (pairs : List Pair) : Type 0 where
  pub alike : (place : ℕ) (pair : Pair) → slice_get pairs place ≡ Some pair → AreAlike P P' pair
  pub closed : Closed (flow_of P) (flow_of P') (IsClaimed P P' pairs) (IsInRow P row)

-- how many edges and points two graphs have
abbrev pub bounds_of : Tables → Tables → Bounds
bounds_of g g' = record { edges = edge_count g; old_points = point_count g; new_points = point_count g' }
