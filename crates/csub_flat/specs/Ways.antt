-- Where ways out lead, by numbers.
use Rattle.std.specs.Prelude.{ℕ, ℤ, ◌≡◌, ◌≢◌, ◌<◌, List, length, All, Option, Some, None, IfSome, IfNone}
use Rattle.csub_semantics.specs.Points.{ExitTree, next, on_true, on_false, on_case, on_default}
use Rattle.csub_semantics.specs.Syntax.{ProgramTree}
use Rattle.csub_semantics.specs.Flows.{point_list, Edge, edge_list, flow_of}
use Rattle.csub_semantics.specs.Numbers.{edge_at}
use Rattle.flow_graph.specs.declared.graph.WayOut.{WayOut}
use Rattle.csub_flat.specs.Sites.{place_of}
use Rattle.csub_flat.specs.declared.ways.CaseWay.{CaseWay}
use Rattle.csub_flat.specs.declared.ways.PointWays.{PointWays}

-- the edge along x from the point with a number
abbrev pub edge_along : ProgramTree → ℕ → ExitTree → Edge
edge_along P n x = record { function = (place_of P n).function; from = (place_of P n).point; exit = x }

-- the way out along x leads to a point of the same function, by an edge of the program
pub record LeadsTo (P : ProgramTree) (n : ℕ) (x : ExitTree) (way : WayOut) : Type 0 where
  pub point : way.to < length (point_list P)
  pub edge : way.edge < length (edge_list P)
  pub function : (place_of P way.to).function ≡ (place_of P n).function
  pub leads : (flow_of P).succ (place_of P n).function (place_of P n).point x ≡ Some (place_of P way.to).point
  pub crosses : edge_at P way.edge ≡ Some (edge_along P n x)

-- there is no way out along x
abbrev pub LeadsNowhere : ProgramTree → ℕ → ExitTree → Type 0
LeadsNowhere P n x = (flow_of P).succ (place_of P n).function (place_of P n).point x ≡ None

-- the way out along x, if there is one
pub record IsWay (P : ProgramTree) (n : ℕ) (x : ExitTree) (way : Option WayOut) : Type 0 where
  pub some : IfSome way (LeadsTo P n x)
  pub none : IfNone way (LeadsNowhere P n x)

-- the case values of the switch at the point with a number
abbrev pub cases_of : ProgramTree → ℕ → List ℤ
cases_of P n = (flow_of P).cases (place_of P n).function (place_of P n).point

-- a table of the cases of the point with a number: each row leads as its case does, and where no row has a value there is
-- no such case
pub record AreCases (P : ProgramTree) (n : ℕ) (rows : List CaseWay) : Type 0 where
  pub each : All (λ r. LeadsTo P n (on_case r.value) r.way) rows
  pub none : (v : ℤ) → All (λ r. r.value ≢ v) rows → LeadsNowhere P n (on_case v)

-- the ways out of the point with a number; cases may be left to the graph
pub record AreWaysOut (P : ProgramTree) (n : ℕ) (ways : PointWays) : Type 0 where
  pub onward : IsWay P n next ways.next
  pub if_true : IsWay P n on_true ways.on_true
  pub if_false : IsWay P n on_false ways.on_false
  pub otherwise : IsWay P n (on_default (cases_of P n)) ways.otherwise
  pub cases : IfSome ways.cases (λ rows. AreCases P n rows.items)
