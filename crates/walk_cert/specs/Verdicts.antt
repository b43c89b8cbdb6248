-- What is found of a claim: that it is closed, or its first break.
use Rattle.std.specs.Prelude.{◌≡◌, ◌<◌, ◌⊎◌, ℕ, Bool, IsTrue, All, List, Some, slice_get}
use Rattle.csub_objects.specs.Types.{Name}
use Rattle.csub_semantics.specs.Points.{PointTree, entry, exit}
use Rattle.csub_semantics.specs.Syntax.{ProgramTree}
use Rattle.csub_semantics.specs.Flows.{Edge, flow_of, start_name}
use Rattle.csub_semantics.specs.Numbers.{edge_at}
use Rattle.csub_semantics.specs.Books.{CallsAt, GoesOn}
use Rattle.edge_trace.specs.Rows.{has}
use Rattle.flow_graph.specs.Graph.{Tables, point_count}
use Rattle.dual_walk.specs.Held.{AreAt}
use Rattle.cert_text.specs.declared.pair.Pair.{Pair}
use Rattle.walk_cert.specs.Claims.{IsClaimed, AreAlike, IsClosedClaim}
use Rattle.walk_cert.specs.declared.answer.Verdict.{Verdict}
use Rattle.walk_cert.specs.declared.answer.Verdict.TheVariants.{Closed, NoStart, Label, Callee, Exit}

-- the numbers of each pair are those of points of the graphs
abbrev pub AreBelow : Tables → Tables → List Pair → Type 0
AreBelow g g' pairs = All (λ pair. (pair.old < point_count g) × (pair.new < point_count g')) pairs

-- the entries of what is called at a pair are claimed
abbrev pub Enters : ProgramTree → ProgramTree → List Pair → Pair → Type 0
Enters P P' pairs pair =
    (f g : Name) (p p' : PointTree) → AreAt P P' pair.old pair.new f p p' → CallsAt (flow_of P) f p g → IsClaimed P P' pairs g entry entry

-- the exits of what is called at a pair are claimed together
abbrev pub ComesBack : ProgramTree → ProgramTree → List Pair → Pair → Type 0
ComesBack P P' pairs pair =
    (f g : Name) (p p' : PointTree) → AreAt P P' pair.old pair.new f p p' → CallsAt (flow_of P) f p g → IsClaimed P P' pairs g exit exit

-- the edge with this number leaves the old point of a pair, and where it leads
pub record IsWayOut (P P' : ProgramTree) (pair : Pair) (e : ℕ) : Type 0 where
  pub edge : Edge
  pub numbered : edge_at P e ≡ Some edge
  pub other : PointTree
  pub at : AreAt P P' pair.old pair.new edge.function edge.from other
  pub to : PointTree
  pub leads : (flow_of P).succ edge.function edge.from edge.exit ≡ Some to

-- it is in the row, or the new point has that exit too and the pair of successors is claimed
abbrev pub Stays : (P P' : ProgramTree) → List Bool → List Pair → (pair : Pair) (e : ℕ) → IsWayOut P P' pair e → Type 0
Stays P P' row pairs pair e way = IsTrue (has row e) ⊎ GoesOn (flow_of P') (IsClaimed P P' pairs) way.edge.function way.other way.edge.exit way.to

abbrev pub StaysAt : ProgramTree → ProgramTree → List Bool → List Pair → Pair → ℕ → Type 0
StaysAt P P' row pairs pair e = (way : IsWayOut P P' pair e) → Stays P P' row pairs pair e way

abbrev pub StaysEverywhere : ProgramTree → ProgramTree → List Bool → List Pair → Pair → Type 0
StaysEverywhere P P' row pairs pair = (e : ℕ) → StaysAt P P' row pairs pair e

-- neither: it leads out of the claim
pub record LeadsOut (P P' : ProgramTree) (row : List Bool) (pairs : List Pair) (pair : Pair) (e : ℕ) : Type 0 where
  pub way : IsWayOut P P' pair e
  pub out : ¬ Stays P P' row pairs pair e way

-- the first edge of a pair that leads out of the claim
pub record IsFirstWayOut (P P' : ProgramTree) (row : List Bool) (pairs : List Pair) (pair : Pair) (e : ℕ) : Type 0 where
  pub out : LeadsOut P P' row pairs pair e
  pub before : (k : ℕ) → k < e → StaysAt P P' row pairs pair k

-- nothing breaks the claim at a pair: its points are alike, what is called there is entered, and no edge leads out of the
-- claim; at a call that is asked only where the callee's exits are claimed together
pub record IsKept (P P' : ProgramTree) (row : List Bool) (pairs : List Pair) (pair : Pair) : Type 0 where
  pub alike : AreAlike P P' pair
  pub enters : Enters P P' pairs pair
  pub stays : ComesBack P P' pairs pair → StaysEverywhere P P' row pairs pair

-- what each answer says of the first break at a pair
abbrev pub IsBreakAt : ProgramTree → ProgramTree → List Bool → List Pair → Pair → Verdict → Type 0
IsBreakAt P P' row pairs pair Closed = ⊥
IsBreakAt P P' row pairs pair NoStart = ⊥
IsBreakAt P P' row pairs pair (Label named) = (named ≡ pair) × (¬ AreAlike P P' pair)
IsBreakAt P P' row pairs pair (Callee named) = (named ≡ pair) × AreAlike P P' pair × (¬ Enters P P' pairs pair)
IsBreakAt P P' row pairs pair (Exit named e) =
    (named ≡ pair) × AreAlike P P' pair × Enters P P' pairs pair × ComesBack P P' pairs pair × IsFirstWayOut P P' row pairs pair e

-- the answer is the first break: the start is claimed, and nothing breaks the claim at the pairs before
pub record IsFirstBreak (P P' : ProgramTree) (row : List Bool) (pairs : List Pair) (verdict : Verdict) : Type 0 where
  pub starts : IsClaimed P P' pairs start_name entry entry
  pub place : ℕ
  pub pair : Pair
  pub stands : slice_get pairs place ≡ Some pair
  pub before : (k : ℕ) (other : Pair) → k < place → slice_get pairs k ≡ Some other → IsKept P P' row pairs other
  pub breaks : IsBreakAt P P' row pairs pair verdict

-- what each answer says of a claim
abbrev pub IsVerdict : ProgramTree → ProgramTree → List Bool → List Pair → Verdict → Type 0
IsVerdict P P' row pairs Closed = IsClosedClaim P P' row pairs
IsVerdict P P' row pairs NoStart = ¬ IsClaimed P P' pairs start_name entry entry
IsVerdict P P' row pairs (Label pair) = IsFirstBreak P P' row pairs (Label pair)
IsVerdict P P' row pairs (Callee pair) = IsFirstBreak P P' row pairs (Callee pair)
IsVerdict P P' row pairs (Exit pair e) = IsFirstBreak P P' row pairs (Exit pair e)
