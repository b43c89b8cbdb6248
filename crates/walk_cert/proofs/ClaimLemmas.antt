-- Claimed pairs by their numbers, points that are alike, and ways out of a claim.
use Rattle.std.proofs.Common.{◌≡◌, ℕ, Bool, true, false, not, List, Some, MatchBool, refl, sym, ap, subst, subst₂, ◌∙◌, inl, inr}
use Rattle.std.proofs.lemmas.Option.{same_Some}
use Rattle.csub_objects.specs.Types.{Name}
use Rattle.csub_semantics.specs.Points.{PointTree, entry, exit}
use Rattle.csub_semantics.specs.Syntax.{ProgramTree}
use Rattle.csub_semantics.specs.Flows.{Edge, flow_of}
use Rattle.csub_semantics.specs.Numbers.{Site, site, site_at}
use Rattle.csub_semantics.specs.Books.{CallsAt, IsNoCallAt, GoesOn}
use Rattle.csub_validity.specs.Valid.{IsValid}
use Rattle.flow_graph.proofs.LawsPlaces.{site_one}
use Rattle.dual_walk.specs.Books.{LeavesFrom}
use Rattle.dual_walk.specs.Held.{AreAt}
use Rattle.dual_walk.specs.declared.callees.Callee.{Callee}
use Rattle.dual_walk.specs.Callees.{IsCallee}
use Rattle.dual_walk.proofs.LawsFacts.{one_at}
use Rattle.dual_walk.proofs.LawsReaching.{one_callee, calls_or_not}
use Rattle.cert_text.specs.declared.pair.Pair.{Pair}
use Rattle.walk_cert.specs.Pairs.{HasPair}
use Rattle.walk_cert.specs.Claims.{IsClaimed, AreNamedAlike}
use Rattle.walk_cert.specs.Verdicts.{Enters, ComesBack, IsWayOut, Stays}

-- ---- pairs by numbers

pub claimed_of : (P P' : ProgramTree) (pairs : List Pair) (n n' : ℕ) (f : Name) (p p' : PointTree) → AreAt P P' n n' f p p' → HasPair pairs n n' → IsClaimed P P' pairs f p p'
claimed_of P P' pairs n n' f p p' at h = record {
  place = h.place;
  pair = h.pair;
  stands = h.stands;
  at = record { old = ap (site_at P) h.old_is ∙ at.old; new = ap (site_at P') h.new_is ∙ at.new };
}

pub pair_of : (P P' : ProgramTree) (pairs : List Pair) (n n' : ℕ) (f : Name) (p p' : PointTree) → IsValid P → IsValid P' → AreAt P P' n n' f p p' → IsClaimed P P' pairs f p p' → HasPair pairs n n'
pair_of P P' pairs n n' f p p' valid valid' at h = record {
  place = h.place;
  pair = h.pair;
  stands = h.stands;
  old_is = site_one P valid h.pair.old n (site f p) h.at.old at.old;
  new_is = site_one P' valid' h.pair.new n' (site f p') h.at.new at.new;
}

-- ---- points that are alike

pub named_alike : (P P' : ProgramTree) (pair : Pair) (s t : Site) → site_at P pair.old ≡ Some s → site_at P' pair.new ≡ Some t → s.function ≡ t.function → AreNamedAlike P P' pair
named_alike P P' pair s t here there same = record {
  function = s.function;
  point = s.point;
  other = t.point;
  at = record { old = here; new = there ∙ ap (λ f. Some (site f t.point)) (sym same) };
}

pub same_names : (P P' : ProgramTree) (pair : Pair) (s t : Site) → site_at P pair.old ≡ Some s → site_at P' pair.new ≡ Some t → AreNamedAlike P P' pair → s.function ≡ t.function
same_names P P' pair s t here there h =
    let old : s.function ≡ h.function = ap (λ (x : Site). x.function) (same_Some s (site h.function h.point) (sym here ∙ h.at.old)) in
    let new : t.function ≡ h.function = ap (λ (x : Site). x.function) (same_Some t (site h.function h.other) (sym there ∙ h.at.new)) in
    old ∙ sym new

-- ---- what is called

module _ (P P' : ProgramTree) (valid : IsValid P) (valid' : IsValid P') (pairs : List Pair) (pair : Pair) (f : Name) (p p' : PointTree) (at : AreAt P P' pair.old pair.new f p p') where
  pub enters_at : (k : Callee) → IsCallee P P' f p k → HasPair pairs k.entry.old k.entry.new → Enters P P' pairs pair
  enters_at k a h g c q q' there calls =
      let same = one_at P P' pair.old pair.new g f q q' p p' there at in
      let called : CallsAt (flow_of P) f p c = subst₂ (λ n x. CallsAt (flow_of P) n x c) same.function same.old calls in
      subst (λ n. IsClaimed P P' pairs n entry entry) (one_callee (flow_of P) f p a.name c a.calls called) (claimed_of P P' pairs k.entry.old k.entry.new a.name entry entry a.numbers.entries h)

  pub entered : (k : Callee) → IsCallee P P' f p k → Enters P P' pairs pair → HasPair pairs k.entry.old k.entry.new
  entered k a h = pair_of P P' pairs k.entry.old k.entry.new a.name entry entry valid valid' a.numbers.entries (h f a.name p p' at a.calls)

  pub back_at : (k : Callee) → IsCallee P P' f p k → HasPair pairs k.exit.old k.exit.new → ComesBack P P' pairs pair
  back_at k a h g c q q' there calls =
      let same = one_at P P' pair.old pair.new g f q q' p p' there at in
      let called : CallsAt (flow_of P) f p c = subst₂ (λ n x. CallsAt (flow_of P) n x c) same.function same.old calls in
      subst (λ n. IsClaimed P P' pairs n exit exit) (one_callee (flow_of P) f p a.name c a.calls called) (claimed_of P P' pairs k.exit.old k.exit.new a.name exit exit a.numbers.exits h)

  pub came_back : (k : Callee) → IsCallee P P' f p k → ComesBack P P' pairs pair → HasPair pairs k.exit.old k.exit.new
  came_back k a h = pair_of P P' pairs k.exit.old k.exit.new a.name exit exit valid valid' a.numbers.exits (h f a.name p p' at a.calls)

  -- where nothing is called nothing is asked
  no_call : IsNoCallAt (flow_of P) f p → (g c : Name) (q q' : PointTree) → AreAt P P' pair.old pair.new g q q' → CallsAt (flow_of P) g q c → ⊥
  no_call plain g c q q' there calls =
      let same = one_at P P' pair.old pair.new g f q q' p p' there at in
      calls_or_not (flow_of P) f p c plain (subst₂ (λ n x. CallsAt (flow_of P) n x c) same.function same.old calls)

  pub enters_none : IsNoCallAt (flow_of P) f p → Enters P P' pairs pair
  enters_none plain g c q q' there calls = absurd (no_call plain g c q q' there calls)

  pub back_none : IsNoCallAt (flow_of P) f p → ComesBack P P' pairs pair
  back_none plain g c q q' there calls = absurd (no_call plain g c q q' there calls)

-- ---- ways out

-- the edge of a pair that is alike
abbrev pub way_out : (P P' : ProgramTree) (pair : Pair) (e : ℕ) (l : LeavesFrom P e pair.old) (named : AreNamedAlike P P' pair) (to : PointTree) → (flow_of P).succ l.edge.function l.edge.from l.edge.exit ≡ Some to → IsWayOut P P' pair e
way_out P P' pair e l named to leads =
    let same : named.function ≡ l.edge.function = ap (λ (s : Site). s.function) (same_Some (site named.function named.point) (site l.edge.function l.edge.from) (sym named.at.old ∙ l.from)) in
    record {
      edge = l.edge;
      numbered = l.numbered;
      other = named.other;
      at = record { old = l.from; new = named.at.new ∙ ap (λ f. Some (site f named.other)) same };
      to = to;
      leads = leads;
    }

pub way_leaves : (P P' : ProgramTree) (pair : Pair) (e : ℕ) → IsWayOut P P' pair e → LeavesFrom P e pair.old
way_leaves P P' pair e way = record { edge = way.edge; numbered = way.numbered; from = way.at.old }

-- an edge has one way
pub stays_same : (P P' : ProgramTree) (row : List Bool) (pairs : List Pair) (pair : Pair) (e : ℕ) (a b : IsWayOut P P' pair e) → Stays P P' row pairs pair e a → Stays P P' row pairs pair e b
stays_same P P' row pairs pair e a b (inl marked) = inl marked
stays_same P P' row pairs pair e a b (inr goes) =
    let edge : a.edge ≡ b.edge = same_Some a.edge b.edge (sym a.numbered ∙ b.numbered) in
    let other : a.other ≡ b.other = ap (λ (s : Site). s.point) (same_Some (site a.edge.function a.other) (site b.edge.function b.other) (sym a.at.new ∙ b.at.new)) in
    let to : a.to ≡ b.to = same_Some a.to b.to (sym a.leads ∙ ap (λ (x : Edge). (flow_of P).succ x.function x.from x.exit) edge ∙ b.leads) in
    let moved : GoesOn (flow_of P') (IsClaimed P P' pairs) b.edge.function b.other b.edge.exit a.to = subst₂ (λ (x : Edge) o. GoesOn (flow_of P') (IsClaimed P P' pairs) x.function o x.exit a.to) edge other goes in
    inr (subst (λ q. GoesOn (flow_of P') (IsClaimed P P' pairs) b.edge.function b.other b.edge.exit q) to moved)

pub match_not : (r : Bool) {A B : Type 0} → (r ≡ false → A) → (r ≡ true → B) → MatchBool (not r) A B
match_not true a b = b refl
match_not false a b = a refl
