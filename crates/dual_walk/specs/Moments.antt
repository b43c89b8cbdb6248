-- A walk at a moment, for the functions inside: the facts that are held so far, the calls that wait, and what has been
-- followed.
use Rattle.std.specs.Prelude.{ℕ, ◌≡◌, ◌<◌, ◌⊎◌, List, length, slice_get, sum_by, Some}
use Rattle.csub_objects.specs.Types.{Name}
use Rattle.csub_semantics.specs.Points.{PointTree, exit, ExitTree, next}
use Rattle.csub_semantics.specs.Syntax.{ProgramTree}
use Rattle.csub_semantics.specs.Flows.{flow_of}
use Rattle.csub_semantics.specs.Numbers.{site, site_at}
use Rattle.csub_semantics.specs.Books.{Together, CallsAt, IsNoCallAt}
use Rattle.flow_graph.specs.Graph.{Tables, IsGraphOf, point_count, way_count_at}
use Rattle.dual_walk.specs.Books.{IsExplained}
use Rattle.dual_walk.specs.Held.{AreAt, IsHeld, IsBookOf}
use Rattle.dual_walk.specs.Rows.{Lists}
use Rattle.dual_walk.specs.Callees.{IsCallee, AreTogether}
use Rattle.dual_walk.specs.declared.fact.Fact.{Fact}
use Rattle.dual_walk.specs.declared.fact.Why.{Why}
use Rattle.dual_walk.specs.declared.ask.Pair.{Pair}
use Rattle.dual_walk.specs.declared.callees.Callee.{Callee}
use Rattle.dual_walk.specs.declared.pairs.Pairs.{Pairs}

-- the facts of a walk of two graphs
pub record IsMoment (g g' : Tables) (pairs : Pairs) : Type 0 where
  pub height : pairs.held.height ≡ point_count g
  pub width : pairs.held.width ≡ point_count g'
  pub book : IsBookOf g g' pairs.facts.items

-- how many questions facts allow: one for each edge that leaves the old point of a fact
abbrev pub allowed : Tables → List Fact → ℕ
allowed g facts = sum_by (λ c. way_count_at g c.old) facts

-- the fact at a place calls the function whose exit has this number
pub record WaitsFor (P P' : ProgramTree) (facts : List Fact) (n j : ℕ) : Type 0 where
  pub fact : Fact
  pub stands : slice_get facts j ≡ Some fact
  pub function : Name
  pub point : PointTree
  pub other : PointTree
  pub at : AreAt P P' fact.old fact.new function point other
  pub callee : Name
  pub calls : CallsAt (flow_of P) function point callee
  pub exit : site_at P n ≡ Some (site callee exit)

-- by each exit point, places of calls that wait for it
pub record AreWaiting (g g' : Tables) (facts : List Fact) (waiting : List (List ℕ)) : Type 0 where
  pub points : length waiting ≡ point_count g
  pub below : (n j : ℕ) → Lists waiting n j → j < length facts
  pub sound : (P P' : ProgramTree) → IsGraphOf g P → IsGraphOf g' P' → (n j : ℕ) → Lists waiting n j → WaitsFor P P' facts n j

-- the reason explains the successors of a fact along x
abbrev pub Explains : Tables → Tables → List Fact → Fact → ExitTree → Why → Type 0
Explains g g' facts from x why =
    (P P' : ProgramTree) → IsGraphOf g P → IsGraphOf g' P' → (f : Name) (p p' : PointTree) → AreAt P P' from.old from.new f p p' →
    (pair : Pair) → AreTogether P P' f p p' x pair →
    IsExplained P P' facts (record { function = from.function; old = pair.old; new = pair.new; why = why })

-- the successors of a fact along x are held
abbrev pub HoldsNext : ProgramTree → ProgramTree → List Fact → Fact → ExitTree → Type 0
HoldsNext P P' facts from x =
    (f : Name) (p p' q q' : PointTree) → AreAt P P' from.old from.new f p p' →
    Together (flow_of P) (flow_of P') f p p' x q q' → IsHeld P P' facts f q q'

-- a fact calls a function whose exits another fact holds
pub record ComesBackAt (P P' : ProgramTree) (c d : Fact) : Type 0 where
  pub function : Name
  pub point : PointTree
  pub other : PointTree
  pub at : AreAt P P' c.old c.new function point other
  pub callee : Name
  pub calls : CallsAt (flow_of P) function point callee
  pub exits : AreAt P P' d.old d.new callee exit exit

-- the call at place j may be passed over by the fact at place m, of its callee's exits
pub record PassesOver (P P' : ProgramTree) (facts : List Fact) (j m : ℕ) : Type 0 where
  pub call : Fact
  pub stands : slice_get facts j ≡ Some call
  pub back : Fact
  pub stands' : slice_get facts m ≡ Some back
  pub comes : ComesBackAt P P' call back

-- what follows from the fact c at place j, whose numbers are those of p and p' in f
pub record LeadsOn (P P' : ProgramTree) (facts : List Fact) (waiting : List (List ℕ)) (j : ℕ) (c : Fact) (f : Name) (p p' : PointTree) : Type 0 where
  -- the successors along each way out are held, where nothing is called
  pub steps : (x : ExitTree) (q q' : PointTree) → IsNoCallAt (flow_of P) f p
      → Together (flow_of P) (flow_of P') f p p' x q q' → IsHeld P P' facts f q q'
  -- where g is called the fact waits for the exits of g, unless the call has been passed over
  pub waits : (k : ℕ) (g : Name) → CallsAt (flow_of P) f p g → site_at P k ≡ Some (site g exit) → Lists waiting k j ⊎ HoldsNext P P' facts c next

-- what follows from the first n facts is held
pub record IsDone (P P' : ProgramTree) (facts : List Fact) (waiting : List (List ℕ)) (n : ℕ) : Type 0 where
  pub leads : (j : ℕ) (c : Fact) (f : Name) (p p' : PointTree) → j < n → slice_get facts j ≡ Some c
      → AreAt P P' c.old c.new f p p' → LeadsOn P P' facts waiting j c f p p'
  pub overs : (j m : ℕ) (c d : Fact) → j < n → m < n → slice_get facts j ≡ Some c → slice_get facts m ≡ Some d
      → ComesBackAt P P' c d → HoldsNext P P' facts c next

-- whatever programs the graphs are of
pub record AreDone (g g' : Tables) (facts : List Fact) (waiting : List (List ℕ)) (n : ℕ) : Type 0 where
  pub each : (P P' : ProgramTree) → IsGraphOf g P → IsGraphOf g' P' → IsDone P P' facts waiting n

-- the fact at a place stands at a call of this function
abbrev pub IsCalledAt : Tables → Tables → List Fact → ℕ → Callee → Type 0
IsCalledAt g g' facts at k =
    (P P' : ProgramTree) (f : Name) (p p' : PointTree) (c : Fact) → IsGraphOf g P → IsGraphOf g' P'
    → slice_get facts at ≡ Some c → AreAt P P' c.old c.new f p p' → IsCallee P P' f p k

-- where the exits of the callee of a fact are held, the call has been passed over
abbrev pub IsPassed : ProgramTree → ProgramTree → List Fact → Fact → Type 0
IsPassed P P' facts c = (m : ℕ) (d : Fact) → slice_get facts m ≡ Some d → ComesBackAt P P' c d → HoldsNext P P' facts c next

-- what follows from one fact by steps, and by the exits of its callee that are held, is held afterwards
pub record IsFollowed (P P' : ProgramTree) (facts : List Fact) (waiting : List (List ℕ)) (at : ℕ) (c : Fact) : Type 0 where
  pub leads : (f : Name) (p p' : PointTree) → AreAt P P' c.old c.new f p p' → LeadsOn P P' facts waiting at c f p p'
  pub overs : IsPassed P P' facts c

-- after the calls that wait for a fact of exits have been passed over: none is left, and the others wait as before
pub record AreResumed (P P' : ProgramTree) (facts : List Fact) (before after : List (List ℕ)) (back : Fact) : Type 0 where
  pub left : (k j : ℕ) (c : Fact) → Lists before k j → slice_get facts j ≡ Some c → Lists after k j ⊎ HoldsNext P P' facts c next
  pub none : (g : Name) (j : ℕ) → AreAt P P' back.old back.new g exit exit → Lists after back.old j → ⊥
