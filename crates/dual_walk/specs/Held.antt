-- What facts hold, by numbers and by points; what a list of facts keeps as it grows, and when nothing more follows.
use Rattle.std.specs.Prelude.{ℕ, ◌≡◌, ◌<◌, ◌++◌, ◌&&◌, ◌||◌, List, [], ◌∷◌, slice_get, Some, Bool, false, nat_eq}
use Rattle.csub_objects.specs.Types.{Name}
use Rattle.csub_semantics.specs.Points.{PointTree, exit, ExitTree, next}
use Rattle.csub_semantics.specs.Syntax.{ProgramTree}
use Rattle.csub_semantics.specs.Flows.{flow_of}
use Rattle.csub_semantics.specs.Numbers.{site, site_at}
use Rattle.csub_semantics.specs.Books.{Together, CallsAt, IsNoCallAt}
use Rattle.flow_graph.specs.Graph.{Tables, IsGraphOf, point_count, function_count}
use Rattle.dual_walk.specs.Books.{AreReasoned}
use Rattle.dual_walk.specs.declared.fact.Fact.{Fact}

-- the numbers are those of two points of f
pub record AreAt (P P' : ProgramTree) (n n' : ℕ) (f : Name) (p p' : PointTree) : Type 0 where
  pub old : site_at P n ≡ Some (site f p)
  pub new : site_at P' n' ≡ Some (site f p')

-- the pair of numbers stands among the facts
pub record HasPair (facts : List Fact) (n n' : ℕ) : Type 0 where
  pub place : ℕ
  pub fact : Fact
  pub stands : slice_get facts place ≡ Some fact
  pub old : fact.old ≡ n
  pub new : fact.new ≡ n'

-- the same as a test
abbrev pub has_pair : List Fact → ℕ → ℕ → Bool
has_pair [] n n' = false
has_pair (c ∷ facts) n n' = (nat_eq c.old n && nat_eq c.new n') || has_pair facts n n'

-- the pair of points stands among the facts
pub record IsHeld (P P' : ProgramTree) (facts : List Fact) (f : Name) (p p' : PointTree) : Type 0 where
  pub place : ℕ
  pub fact : Fact
  pub stands : slice_get facts place ≡ Some fact
  pub at : AreAt P P' fact.old fact.new f p p'

-- more facts stand behind the old ones
pub record Extends (before after : List Fact) : Type 0 where
  pub more : List Fact
  pub is : after ≡ before ++ more

-- a fact's numbers are numbers of the graphs
pub record IsWithin (g g' : Tables) (c : Fact) : Type 0 where
  pub function : c.function < function_count g
  pub old : c.old < point_count g
  pub new : c.new < point_count g'

-- facts of two graphs: each is explained by those before it, whatever programs the graphs are of, and none stands twice
pub record IsBookOf (g g' : Tables) (facts : List Fact) : Type 0 where
  pub reasoned : (P P' : ProgramTree) → IsGraphOf g P → IsGraphOf g' P' → AreReasoned P P' facts
  pub once : (i j : ℕ) (c d : Fact) → slice_get facts i ≡ Some c → slice_get facts j ≡ Some d → c.old ≡ d.old → c.new ≡ d.new → i ≡ j
  pub within : (i : ℕ) (c : Fact) → slice_get facts i ≡ Some c → IsWithin g g' c

-- what follows from held pairs by steps, and over calls whose callees' exits are held, is held
pub record IsClosedUnder (P P' : ProgramTree) (facts : List Fact) : Type 0 where
  pub steps : (f : Name) (p p' q q' : PointTree) (x : ExitTree) → IsHeld P P' facts f p p' → IsNoCallAt (flow_of P) f p
      → Together (flow_of P) (flow_of P') f p p' x q q' → IsHeld P P' facts f q q'
  pub over : (f g : Name) (p p' q q' : PointTree) → IsHeld P P' facts f p p' → CallsAt (flow_of P) f p g → IsHeld P P' facts g exit exit
      → Together (flow_of P) (flow_of P') f p p' next q q' → IsHeld P P' facts f q q'
