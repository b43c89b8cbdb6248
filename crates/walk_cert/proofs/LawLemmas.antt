-- A claim by numbers as lists of facts and edges, and what holds over the one holds over the other.
use Rattle.std.proofs.Common.{◌≡◌, ℕ, zero, suc, Bool, true, false, List, [], ◌∷◌, Some, IsTrue, refl, sym, subst, ◌⊎◌, inl, inr}
use Rattle.std.specs.Prelude.{slice_get}
use Rattle.std.specs.List.{AllZip}
use Rattle.std.proofs.lemmas.List.Elements.{All-weaker}
use Rattle.std.proofs.lemmas.Option.{same_Some}
use Rattle.csub_objects.specs.Types.{Name}
use Rattle.csub_semantics.specs.Points.{PointTree, ExitTree}
use Rattle.csub_semantics.specs.Syntax.{ProgramTree}
use Rattle.csub_semantics.specs.Flows.{Flow, Edge, edge_list, flow_of}
use Rattle.csub_semantics.specs.Books.{Fact, fact, GoesOn, Closed, IsImage}
use Rattle.edge_trace.specs.Rows.{has}
use Rattle.dual_walk.specs.Held.{AreAt}
use Rattle.dual_walk.proofs.LawsFacts.{one_at}
use Rattle.dual_walk.proofs.LawsLists.{contained, contains_at}
use Rattle.call_walk.specs.Lockstep.{Claim, Edges, claims, among, SameRuns}
use Rattle.cert_text.specs.declared.pair.Pair.{Pair}
use Rattle.walk_cert.specs.Claims.{IsClaimed, IsInRow, AreAlike, IsClosedClaim}

-- ---- the pairs as facts

module _ (P P' : ProgramTree) where
  pub facts_from : (pairs : List Pair) → ((k : ℕ) (pair : Pair) → slice_get pairs k ≡ Some pair → AreAlike P P' pair) → List Fact
  facts_from [] h = []
  facts_from (p ∷ pairs) h = fact (h 0 p refl).named.function (h 0 p refl).named.point (h 0 p refl).named.other ∷ facts_from pairs (λ k pair e. h (suc k) pair e)

  pub in_facts : (pairs : List Pair) (h : (k : ℕ) (pair : Pair) → slice_get pairs k ≡ Some pair → AreAlike P P' pair) (k : ℕ) (pair : Pair) (f : Name) (p p' : PointTree) → slice_get pairs k ≡ Some pair → AreAt P P' pair.old pair.new f p p' → slice_get (facts_from pairs h) k ≡ Some (fact f p p')
  unfolding facts_from
  in_facts [] h k pair f p p' e at = absurd cc
  in_facts (x ∷ pairs) h zero pair f p p' e at =
      let n = (h 0 x refl).named in
      let same = one_at P P' x.old x.new n.function f n.point n.other p p' n.at (subst (λ (y : Pair). AreAt P P' y.old y.new f p p') (sym (same_Some x pair e)) at) in
      λ i. Some (fact (same.function i) (same.old i) (same.new i))
  in_facts (x ∷ pairs) h (suc k) pair f p p' e at = in_facts pairs (λ j q e'. h (suc j) q e') k pair f p p' e at

  pub of_facts : (pairs : List Pair) (h : (k : ℕ) (pair : Pair) → slice_get pairs k ≡ Some pair → AreAlike P P' pair) (k : ℕ) (f : Name) (p p' : PointTree) → slice_get (facts_from pairs h) k ≡ Some (fact f p p') → IsClaimed P P' pairs f p p'
  unfolding facts_from
  of_facts [] h k f p p' e = absurd cc
  of_facts (x ∷ pairs) h zero f p p' e =
      let n = (h 0 x refl).named in
      let same : fact n.function n.point n.other ≡ fact f p p' = same_Some _ _ e in
      record { place = 0; pair = x; stands = refl; at = subst (λ (y : Fact). AreAt P P' x.old x.new y.function y.old y.new) same n.at }
  of_facts (x ∷ pairs) h (suc k) f p p' e =
      let r = of_facts pairs (λ j q e'. h (suc j) q e') k f p p' e in
      record { place = suc r.place; pair = r.pair; stands = r.stands; at = r.at }

-- ---- the edges of a row

marked_edges : List Bool → List Edge → List Edge
marked_edges [] xs = []
marked_edges (b ∷ row) [] = []
marked_edges (true ∷ row) (x ∷ xs) = x ∷ marked_edges row xs
marked_edges (false ∷ row) (x ∷ xs) = marked_edges row xs

-- where an edge stands
record Stands (xs : List Edge) (row : List Bool) (x : Edge) : Type 0 where
  pub place : ℕ
  pub stands : slice_get xs place ≡ Some x
  pub marked : IsTrue (has row place)

of_edges : (row : List Bool) (xs : List Edge) (i : ℕ) (x : Edge) → slice_get (marked_edges row xs) i ≡ Some x → Stands xs row x
unfolding marked_edges
of_edges [] xs i x e = absurd cc
of_edges (b ∷ row) [] i x e = absurd cc
of_edges (true ∷ row) (y ∷ xs) zero x e = record { place = 0; stands = e; marked = refl }
of_edges (true ∷ row) (y ∷ xs) (suc i) x e = let r = of_edges row xs i x e in record { place = suc r.place; stands = r.stands; marked = r.marked }
of_edges (false ∷ row) (y ∷ xs) i x e = let r = of_edges row xs i x e in record { place = suc r.place; stands = r.stands; marked = r.marked }

in_edges : (row : List Bool) (xs : List Edge) (k : ℕ) (x : Edge) → slice_get xs k ≡ Some x → IsTrue (has row k) → (i : ℕ) × (slice_get (marked_edges row xs) i ≡ Some x)
unfolding marked_edges
in_edges [] xs k x e marked = absurd cc
in_edges (b ∷ row) [] k x e marked = absurd cc
in_edges (true ∷ row) (y ∷ xs) zero x e marked = (0, e)
in_edges (true ∷ row) (y ∷ xs) (suc k) x e marked = let r = in_edges row xs k x e marked in (suc r.0, r.1)
in_edges (false ∷ row) (y ∷ xs) zero x e marked = absurd cc
in_edges (false ∷ row) (y ∷ xs) (suc k) x e marked = in_edges row xs k x e marked

-- ---- the same over equal sets

pub closed_over : (F F' : Flow) (C D : Claim) (E G : Edges) → ((f : Name) (p p' : PointTree) → C f p p' → D f p p') → ((f : Name) (p p' : PointTree) → D f p p' → C f p p') → ((f : Name) (p : PointTree) (x : ExitTree) → E f p x → G f p x)
    → Closed F F' C E → Closed F F' D G
closed_over F F' C D E G to from edges h = record {
  starts = to _ _ _ h.starts;
  same = λ f p p' d. h.same f p p' (from f p p' d);
  steps = λ f p p' q x d plain leads. moved f p p' q x (h.steps f p p' q x (from f p p' d) plain leads);
  enters = λ f p p' g d calls. to _ _ _ (h.enters f p p' g (from f p p' d) calls);
  over = λ f p p' q g d calls back leads. moved f p p' q _ (h.over f p p' q g (from f p p' d) calls (from _ _ _ back) leads);
}
  where
    moved : (f : Name) (p p' q : PointTree) (x : ExitTree) → E f p x ⊎ GoesOn F' C f p' x q → G f p x ⊎ GoesOn F' D f p' x q
    moved f p p' q x (inl e) = inl (edges f p x e)
    moved f p p' q x (inr g) = inr (record { to = g.to; leads = g.leads; claimed = to _ _ _ g.claimed })

images_over : (C D : Claim) → ((f : Name) (p p' : PointTree) → D f p p' → C f p p') → (es es' : List Edge) → AllZip (IsImage D) es es' → AllZip (IsImage C) es es'
images_over C D from [] [] h = tt
images_over C D from [] (y ∷ ys) h = h
images_over C D from (x ∷ xs) [] h = h
images_over C D from (x ∷ xs) (y ∷ ys) h = (record { function = h.0.function; exit = h.0.exit; pair = from x.function x.from y.from h.0.pair }, images_over C D from xs ys h.1)

runs_over : (F F' : Flow) (C D : Claim) (E G : Edges) → ((f : Name) (p p' : PointTree) → D f p p' → C f p p') → ((f : Name) (p : PointTree) (x : ExitTree) → G f p x → E f p x) → SameRuns F F' D G → SameRuns F F' C E
runs_over F F' C D E G from edges h input budget r run none =
    let s = h input budget r run (All-weaker (λ (e : Edge). E e.function e.from e.exit → ⊥) (λ (e : Edge). G e.function e.from e.exit → ⊥) (λ e out g. out (edges e.function e.from e.exit g)) r.crossed none) in
    (s.0, s.1, record { status = s.2.status; output = s.2.output; turns = s.2.turns; images = images_over C D from r.crossed s.0.crossed s.2.images })

pub closed_runs : (P P' : ProgramTree) (row : List Bool) (pairs : List Pair)
    → ((facts : List Fact) (edges : List Edge) → Closed (flow_of P) (flow_of P') (claims facts) (among edges) → SameRuns (flow_of P) (flow_of P') (claims facts) (among edges))
    → IsClosedClaim P P' row pairs → SameRuns (flow_of P) (flow_of P') (IsClaimed P P' pairs) (IsInRow P row)
closed_runs P P' row pairs law h =
    let facts : List Fact = facts_from P P' pairs h.alike in
    let edges : List Edge = marked_edges row (edge_list P) in
    runs_over (flow_of P) (flow_of P') (IsClaimed P P' pairs) (claims facts) (IsInRow P row) (among edges)
    (λ f p p' c. let at = contained facts (fact f p p') c in of_facts P P' pairs h.alike at.0 f p p' at.1)
    (λ f p x c. let at = contained edges (record { function = f; from = p; exit = x }) c in let s = of_edges row (edge_list P) at.0 _ at.1 in record { edge = s.place; numbered = s.stands; marked = s.marked })
    (law facts edges (closed_over (flow_of P) (flow_of P') (IsClaimed P P' pairs) (claims facts) (IsInRow P row) (among edges)
    (λ f p p' c. contains_at facts c.place (fact f p p') (in_facts P P' pairs h.alike c.place c.pair f p p' c.stands c.at))
    (λ f p p' c. let at = contained facts (fact f p p') c in of_facts P P' pairs h.alike at.0 f p p' at.1)
    (λ f p x c. let at = in_edges row (edge_list P) c.edge _ c.numbered c.marked in contains_at edges at.0 (record { function = f; from = p; exit = x }) at.1)
    h.closed))
