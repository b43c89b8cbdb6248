-- A walk whose callees are entered: what it holds then, where its facts stop, and the row of the edges at which they do.
use Rattle.std.specs.Prelude.{ℕ, ◌≡◌, ◌<◌, ◌⊎◌, List, slice_get, Some, Bool, IsTrue}
use Rattle.csub_objects.specs.Types.{Name}
use Rattle.csub_semantics.specs.Points.{PointTree, entry, exit, ExitTree}
use Rattle.csub_semantics.specs.Syntax.{ProgramTree}
use Rattle.csub_semantics.specs.Flows.{Edge, flow_of}
use Rattle.csub_semantics.specs.Numbers.{edge_at}
use Rattle.csub_semantics.specs.Books.{CallsAt, Reached}
use Rattle.edge_trace.specs.Rows.{has}
use Rattle.flow_graph.specs.Graph.{Tables, IsGraphOf}
use Rattle.dual_walk.specs.declared.fact.Fact.{Fact}
use Rattle.dual_walk.specs.Held.{AreAt, IsHeld}

-- the entries of what is called at the first n facts are held
pub record AreEntered (P P' : ProgramTree) (facts : List Fact) (n : ℕ) : Type 0 where
  pub each : (j : ℕ) (c : Fact) (f g : Name) (p p' : PointTree) → j < n → slice_get facts j ≡ Some c
      → AreAt P P' c.old c.new f p p' → CallsAt (flow_of P) f p g → IsHeld P P' facts g entry entry

-- every reached pair is held
abbrev pub HoldsAll : Tables → Tables → List Fact → Type 0
HoldsAll g g' facts =
    (P P' : ProgramTree) → IsGraphOf g P → IsGraphOf g' P' → (f : Name) (p p' : PointTree) → Reached (flow_of P) (flow_of P') f p p'
    → IsHeld P P' facts f p p'

-- what is called at a point comes back: the pair of its exits is held
abbrev pub ComesBack : ProgramTree → ProgramTree → List Fact → Name → PointTree → Type 0
ComesBack P P' facts f p = (g : Name) → CallsAt (flow_of P) f p g → IsHeld P P' facts g exit exit

-- the successors of both points along x are held
pub record GoesOn (P P' : ProgramTree) (facts : List Fact) (f : Name) (p p' : PointTree) (x : ExitTree) : Type 0 where
  pub to : PointTree
  pub to' : PointTree
  pub leads : (flow_of P).succ f p x ≡ Some to
  pub leads' : (flow_of P').succ f p' x ≡ Some to'
  pub held : IsHeld P P' facts f to to'

-- the edge leaves a fact's old point, and its successors aren't held
pub record Stops (P P' : ProgramTree) (facts : List Fact) (c : Fact) (e : ℕ) : Type 0 where
  pub edge : Edge
  pub numbered : edge_at P e ≡ Some edge
  pub other : PointTree
  pub at : AreAt P P' c.old c.new edge.function edge.from other
  pub to : PointTree
  pub leads : (flow_of P).succ edge.function edge.from edge.exit ≡ Some to
  pub stops : GoesOn P P' facts edge.function edge.from other edge.exit → ⊥

-- and at a call the callee comes back
pub record IsStopped (P P' : ProgramTree) (facts : List Fact) (c : Fact) (e : ℕ) : Type 0 where
  pub stops : Stops P P' facts c e
  pub back : ComesBack P P' facts stops.edge.function stops.edge.from

-- so it is at one of the first n facts
pub record IsStoppedBefore (P P' : ProgramTree) (facts : List Fact) (n e : ℕ) : Type 0 where
  pub place : ℕ
  pub fact : Fact
  pub before : place < n
  pub stands : slice_get facts place ≡ Some fact
  pub stopped : IsStopped P P' facts fact e

-- a row with a set of numbers more
pub record Marks (before after : List Bool) (E : ℕ → Type 0) : Type 0 where
  pub sound : (e : ℕ) → IsTrue (has after e) → IsTrue (has before e) ⊎ E e
  pub kept : (e : ℕ) → IsTrue (has before e) → IsTrue (has after e)
  pub marked : (e : ℕ) → E e → IsTrue (has after e)
