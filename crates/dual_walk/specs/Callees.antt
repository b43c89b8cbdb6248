-- What a walk asks of two graphs: where a way out leads in both, and what is called at a point.
use Rattle.std.specs.Prelude.{ℕ, ◌≡◌, ◌<◌, List, length, slice_get, Option, Some, IfSome, MatchOption}
use Rattle.std.specs.Option.{option_map}
use Rattle.csub_objects.specs.Types.{Name}
use Rattle.csub_semantics.specs.Points.{PointTree, entry, exit, ExitTree}
use Rattle.csub_semantics.specs.Syntax.{FunctionTree, ProgramTree}
use Rattle.csub_semantics.specs.Flows.{flow_of, function_of}
use Rattle.csub_semantics.specs.Numbers.{Site, site, site_at, name_at}
use Rattle.csub_semantics.specs.Books.{SameLabel, Together, CallsAt, IsNoCallAt}
use Rattle.flow_graph.specs.Graph.{Tables, IsGraphOf, point_count, function_count}
use Rattle.dual_walk.specs.Held.{AreAt}
use Rattle.dual_walk.specs.declared.ask.Pair.{Pair}
use Rattle.dual_walk.specs.declared.callees.Callee.{Callee}

-- the numbers of a function, and of its entry and exit in each program
pub record IsFunction (P P' : ProgramTree) (g : Name) (k : Callee) : Type 0 where
  pub function : name_at P k.function ≡ Some g
  pub entries : AreAt P P' k.entry.old k.entry.new g entry entry
  pub exits : AreAt P P' k.exit.old k.exit.new g exit exit

-- the point calls this function
pub record IsCallee (P P' : ProgramTree) (f : Name) (p : PointTree) (k : Callee) : Type 0 where
  pub name : Name
  pub calls : CallsAt (flow_of P) f p name
  pub numbers : IsFunction P P' name k

-- the numbers of a function are numbers of the graphs
pub record AreNumbersOf (g g' : Tables) (k : Callee) : Type 0 where
  pub function : k.function < function_count g
  pub old_entry : k.entry.old < point_count g
  pub new_entry : k.entry.new < point_count g'
  pub old_exit : k.exit.old < point_count g
  pub new_exit : k.exit.new < point_count g'

-- the function that is called at the old graph's point n, or none, whatever programs the graphs are of
pub record IsCalleeAt (g g' : Tables) (n : ℕ) (found : Option Callee) : Type 0 where
  pub callee : (P P' : ProgramTree) (f : Name) (p p' : PointTree) → IsGraphOf g P → IsGraphOf g' P' → SameLabel (flow_of P) (flow_of P') f p p'
      → site_at P n ≡ Some (site f p) → MatchOption found (IsNoCallAt (flow_of P) f p) (IsCallee P P' f p)
  pub within : IfSome found (AreNumbersOf g g')

-- by each point of the old graph, what is called there
pub record AreCallees (g g' : Tables) (row : List (Option Callee)) : Type 0 where
  pub points : length row ≡ point_count g
  pub each : (n : ℕ) (found : Option Callee) → slice_get row n ≡ Some found → IsCalleeAt g g' n found

-- a function has this name
pub record Defines (P : ProgramTree) (g : Name) : Type 0 where
  pub function : FunctionTree
  pub is : function_of P g ≡ Some function

-- the point with number n leads along x to the one with number m
abbrev pub LeadsAlong : Tables → ℕ → ExitTree → ℕ → Type 0
LeadsAlong g n x m =
    (P : ProgramTree) (s : Site) → IsGraphOf g P → site_at P n ≡ Some s →
    site_at P m ≡ option_map (site s.function) ((flow_of P).succ s.function s.point x)

-- the pair of numbers is that of the successors along x
pub record AreTogether (P P' : ProgramTree) (f : Name) (p p' : PointTree) (x : ExitTree) (pair : Pair) : Type 0 where
  pub to : PointTree
  pub to' : PointTree
  pub at : AreAt P P' pair.old pair.new f to to'
  pub both : Together (flow_of P) (flow_of P') f p p' x to to'
