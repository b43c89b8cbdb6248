-- Facts of a walk of two programs: what their numbers stand for, and that their own reasons justify them.
use Rattle.std.specs.Prelude.{ℕ, ◌≡◌, List, [], map, take, slice_get, Option, Some, None}
use Rattle.csub_objects.specs.Types.{Name}
use Rattle.csub_semantics.specs.Points.{PointTree, entry, ExitTree, next}
use Rattle.csub_semantics.specs.Syntax.{ProgramTree}
use Rattle.csub_semantics.specs.Flows.{Edge, flow_of}
use Rattle.csub_semantics.specs.Numbers.{Site, site, site_at, edge_at, name_at}
use Rattle.csub_semantics.specs.Books as books
use Rattle.csub_semantics.specs.Books.{Reason, start, step, enter_callee, over, Justified}
use Rattle.dual_walk.specs.declared.fact.Fact.{Fact}
use Rattle.dual_walk.specs.declared.fact.Why.{Why}
use Rattle.dual_walk.specs.declared.fact.Why.TheVariants.{Start, Step, Call, Over}

-- the numbers are those of a function's name and of a point of that function in each program
pub record IsNamed (P P' : ProgramTree) (c : Fact) : Type 0 where
  pub name : Name
  pub point : PointTree
  pub other : PointTree
  pub function : name_at P c.function ≡ Some name
  pub old : site_at P c.old ≡ Some (site name point)
  pub new : site_at P' c.new ≡ Some (site name other)

-- the name of a function, the point and the way out that a number stands for (where it stands for none, any)
abbrev pub name_in : Option Name → Name
name_in None = []
name_in (Some f) = f

abbrev pub point_in : Option Site → PointTree
point_in None = entry
point_in (Some s) = s.point

abbrev pub exit_in : Option Edge → ExitTree
exit_in None = next
exit_in (Some e) = e.exit

-- a fact by names
abbrev pub named_fact : ProgramTree → ProgramTree → Fact → books.Fact
named_fact P P' c = books.fact (name_in (name_at P c.function)) (point_in (site_at P c.old)) (point_in (site_at P' c.new))

abbrev pub named_facts : ProgramTree → ProgramTree → List Fact → List books.Fact
named_facts P P' facts = map (named_fact P P') facts

-- a reason by names: an edge by its exit label
abbrev pub named_reason : ProgramTree → Why → Reason
named_reason P Start = start
named_reason P (Step j e) = step j (exit_in (edge_at P e))
named_reason P (Call j) = enter_callee j
named_reason P (Over j m) = over j m

-- the edge with this number leaves the point with that number
pub record LeavesFrom (P : ProgramTree) (e n : ℕ) : Type 0 where
  pub edge : Edge
  pub numbered : edge_at P e ≡ Some edge
  pub from : site_at P n ≡ Some (site edge.function edge.from)

-- a step goes along an edge of the old point of the fact that it names
abbrev pub StepsAlong : ProgramTree → List Fact → Why → Type 0
StepsAlong P earlier (Step j e) = (d : Fact) × (slice_get earlier j ≡ Some d) × LeavesFrom P e d.old
StepsAlong P earlier why = Unit {0}

-- a fact has numbers of the programs, and its own reason justifies it by the facts before it
pub record IsExplained (P P' : ProgramTree) (earlier : List Fact) (c : Fact) : Type 0 where
  pub named : IsNamed P P' c
  pub justified : Justified (flow_of P) (flow_of P') (named_facts P P' earlier) (named_fact P P' c) (named_reason P c.why)
  pub along : StepsAlong P earlier c.why

-- the reason of each fact justifies it by the facts before it
pub record AreReasoned (P P' : ProgramTree) (facts : List Fact) : Type 0 where
  pub each : (i : ℕ) (c : Fact) → slice_get facts i ≡ Some c → IsExplained P P' (take i facts) c
