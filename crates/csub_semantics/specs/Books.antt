-- Walking two programs together: books of facts, reached pairs and dangerous edges (Rothermel and Harrold, ACM TOSEM
-- 6(2), 1997), and claims that are closed.
use Rattle.std.specs.Prelude.{ℕ, ◌≡◌, ◌⊎◌, List, Some, None, slice_get, take}
use Rattle.csub_objects.specs.Types.{Name}
use Rattle.csub_semantics.specs.Labels.{CallTree, call_of, PointLabel}
use Rattle.csub_semantics.specs.Points.{PointTree, entry, exit, ExitTree, next}
use Rattle.csub_semantics.specs.Flows.{Flow, Edge, start_name}

-- a fact: a point of a function in the old program and a point of the function of that name in the new one
pub record Fact : Type 0 where
  pub function : Name
  pub old : PointTree
  pub new : PointTree

abbrev pub fact : Name → PointTree → PointTree → Fact
fact f p p' = record { function = f; old = p; new = p' }

-- both points are there and have one label
pub record SameLabel (P P' : Flow) (f : Name) (p p' : PointTree) : Type 0 where
  pub label : PointLabel
  pub old : P.label f p ≡ Some label
  pub new : P'.label f p' ≡ Some label

-- q and q' are the successors of p and p' along one way out, with equal labels
pub record Together (P P' : Flow) (f : Name) (p p' : PointTree) (x : ExitTree) (q q' : PointTree) : Type 0 where
  pub old : P.succ f p x ≡ Some q
  pub new : P'.succ f p' x ≡ Some q'
  pub same : SameLabel P P' f q q'

-- the point calls g
pub record CallsAt (P : Flow) (f : Name) (p : PointTree) (g : Name) : Type 0 where
  pub label : PointLabel
  pub labelled : P.label f p ≡ Some label
  pub call : CallTree
  pub is : call_of label.tree ≡ Some call
  pub callee : call.callee ≡ g

-- the point is there and calls nothing
pub record IsNoCallAt (P : Flow) (f : Name) (p : PointTree) : Type 0 where
  pub label : PointLabel
  pub labelled : P.label f p ≡ Some label
  pub none : call_of label.tree ≡ None

-- the reason of a fact, by the places of earlier facts
pub data Reason : Type 0 where
  -- both programs begin at the entry of `#start`
  start : Reason
  -- from a fact along a way out
  step : ℕ → ExitTree → Reason
  -- from a fact at a call into the callee
  enter_callee : ℕ → Reason
  -- from a fact at a call over it, since both callees may end together
  over : ℕ → ℕ → Reason

abbrev pub Justified : Flow → Flow → List Fact → Fact → Reason → Type 0
Justified P P' earlier c start = c ≡ fact start_name entry entry
Justified P P' earlier c (step j x) =
    (p p' : PointTree) × (slice_get earlier j ≡ Some (fact c.function p p')) × IsNoCallAt P c.function p
    × Together P P' c.function p p' x c.old c.new
Justified P P' earlier c (enter_callee j) =
    (f : Name) × (p p' : PointTree) × (slice_get earlier j ≡ Some (fact f p p')) × CallsAt P f p c.function
    × (c ≡ fact c.function entry entry)
Justified P P' earlier c (over j m) =
    (p p' : PointTree) × (g : Name) × (slice_get earlier j ≡ Some (fact c.function p p'))
    × (slice_get earlier m ≡ Some (fact g exit exit)) × CallsAt P c.function p g × Together P P' c.function p p' next c.old c.new

-- a book: each fact has a reason that names earlier facts alone
pub record IsBook (P P' : Flow) (facts : List Fact) : Type 0 where
  pub each : (i : ℕ) (c : Fact) → slice_get facts i ≡ Some c → (why : Reason) × Justified P P' (take i facts) c why

-- a pair is reached where it stands in some book
pub record Reached (P P' : Flow) (f : Name) (p p' : PointTree) : Type 0 where
  pub book : List Fact
  pub valid : IsBook P P' book
  pub place : ℕ
  pub stands : slice_get book place ≡ Some (fact f p p')

-- an old edge is dangerous where a reached pair has no equal successors along it; at a call the callee has to come back
pub record Dangerous (P P' : Flow) (f : Name) (p : PointTree) (x : ExitTree) : Type 0 where
  pub to : PointTree
  pub leads : P.succ f p x ≡ Some to
  pub other : PointTree
  pub reached : Reached P P' f p other
  pub none : (q' : PointTree) → P'.succ f other x ≡ Some q' → SameLabel P P' f to q' → ⊥
  pub returns : (g : Name) → CallsAt P f p g → Reached P P' g exit exit

-- the pair of successors along x is in the claim
pub record GoesOn (P' : Flow) (C : Name → PointTree → PointTree → Type 0) (f : Name) (p' : PointTree) (x : ExitTree) (q : PointTree) : Type 0 where
  pub to : PointTree
  pub leads : P'.succ f p' x ≡ Some to
  pub claimed : C f q to

-- a set C of facts and a set E of old edges are closed where nothing leads from C to a pair outside it but by E
pub record Closed (P P' : Flow) (C : Name → PointTree → PointTree → Type 0) (E : Name → PointTree → ExitTree → Type 0) : Type 0 where
  pub starts : C start_name entry entry
  pub same : (f : Name) (p p' : PointTree) → C f p p' → SameLabel P P' f p p'
  pub steps : (f : Name) (p p' q : PointTree) (x : ExitTree) → C f p p' → IsNoCallAt P f p → P.succ f p x ≡ Some q → E f p x ⊎ GoesOn P' C f p' x q
  pub enters : (f : Name) (p p' : PointTree) (g : Name) → C f p p' → CallsAt P f p g → C g entry entry
  pub over : (f : Name) (p p' q : PointTree) (g : Name) → C f p p' → CallsAt P f p g → C g exit exit
      → P.succ f p next ≡ Some q → E f p next ⊎ GoesOn P' C f p' next q

-- the new edge is an image of the old one: the same way out of a point that is claimed with the old one
pub record IsImage (C : Name → PointTree → PointTree → Type 0) (old new : Edge) : Type 0 where
  pub function : old.function ≡ new.function
  pub exit : old.exit ≡ new.exit
  pub pair : C old.function old.from new.from
