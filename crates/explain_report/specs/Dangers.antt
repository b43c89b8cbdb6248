-- What shows that an edge is dangerous, by numbers, for the functions inside.
use Rattle.std.specs.Prelude.{ℕ, ◌≡◌, ◌<◌, ◌↔◌, Bool, IsTrue, List, Some, slice_get}
use Rattle.csub_objects.specs.Types.{Name}
use Rattle.csub_semantics.specs.Points.{PointTree, ExitTree}
use Rattle.csub_semantics.specs.Syntax.{ProgramTree}
use Rattle.csub_semantics.specs.Flows.{Edge, flow_of}
use Rattle.csub_semantics.specs.Numbers.{site, site_at}
use Rattle.edge_trace.specs.Rows.{has}
use Rattle.flow_graph.specs.Graph.{Tables, IsGraphOf, edge_count, function_count}
use Rattle.dual_walk.specs.declared.fact.Fact.{Fact}
use Rattle.dual_walk.specs.declared.fact.Why.{Why}
use Rattle.dual_walk.specs.declared.fact.Why.TheVariants.{Start, Step, Call, Over}
use Rattle.dual_walk.specs.Books.{IsNamed}
use Rattle.dual_walk.specs.Held.{HasPair, IsWithin}
use Rattle.explain_report.specs.declared.shown.Shown.{Shown}
use Rattle.dual_walk.specs.Books.{AreReasoned}
use Rattle.explain_report.specs.Explanations.{Shows, AreUsed}

-- the numbers of each fact are numbers of the graphs
pub record AreWithin (g g' : Tables) (facts : List Fact) : Type 0 where
  pub each : (i : ℕ) (c : Fact) → slice_get facts i ≡ Some c → IsWithin g g' c

-- and they name points of the programs
pub record AreNamed (P P' : ProgramTree) (facts : List Fact) : Type 0 where
  pub each : (i : ℕ) (c : Fact) → slice_get facts i ≡ Some c → IsNamed P P' c

-- by each new point, whether a fact holds it with this old one
abbrev pub ArePartners : List Fact → ℕ → List Bool → Type 0
ArePartners facts n partners = (n' : ℕ) → IsTrue (has partners n') ↔ HasPair facts n n'

-- along this way out a new point leads to none of these partners
pub record LeadsToNone (P' : ProgramTree) (partners : List Bool) (f : Name) (p' : PointTree) (x : ExitTree) : Type 0 where
  pub none : (q' : PointTree) (n' : ℕ) → (flow_of P').succ f p' x ≡ Some q' → site_at P' n' ≡ Some (site f q') → IsTrue (has partners n') → ⊥

-- whatever program the graph is of
abbrev pub LeadsToNoneAt : Tables → List Bool → ℕ → ExitTree → Type 0
LeadsToNoneAt g' partners n' x =
    (P' : ProgramTree) (f : Name) (p' : PointTree) → IsGraphOf g' P' → site_at P' n' ≡ Some (site f p') → LeadsToNone P' partners f p' x

-- these facts show the danger of an edge
abbrev pub IsShown : ProgramTree → ProgramTree → List Fact → Edge → Shown → Type 0
IsShown P P' facts edge shown = (other : PointTree) × Shows P P' facts edge shown.place shown.back other

-- a book of facts that show it, and of no others than those on which these rest
pub record Argues (P P' : ProgramTree) (facts : List Fact) (edge : Edge) (shown : Shown) : Type 0 where
  pub book : AreReasoned P P' facts
  pub shows : IsShown P P' facts edge shown
  pub used : AreUsed facts shown.place shown.back

-- the numbers that are told of a reason, and of a fact, are numbers of the old graph
abbrev pub IsEdgeWithin : Tables → Why → Type 0
IsEdgeWithin g Start = Unit {0}
IsEdgeWithin g (Step j e) = e < edge_count g
IsEdgeWithin g (Call j) = Unit {0}
IsEdgeWithin g (Over j m) = Unit {0}

pub record IsTellable (g : Tables) (c : Fact) : Type 0 where
  pub function : c.function < function_count g
  pub edge : IsEdgeWithin g c.why
