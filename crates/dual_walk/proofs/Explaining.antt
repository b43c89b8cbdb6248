-- Reasons of facts, and one more fact at a moment of a walk.
use Rattle.std.proofs.Common.{◌≡◌, ℕ, ◌≤◌, List, [], ◌∷◌, ◌++◌, length, take, Some, Result, Ok, Err, sym, ap, ◌∙◌, subst, subst₂, ◌⊎◌, inl, inr, arith}
use Rattle.std.specs.Prelude.{slice_get, OnOk}
use Rattle.std.proofs.lemmas.List.{take-append-le}
use Rattle.std.proofs.lemmas.Option.{slice_get_within, same_Some}
use Rattle.std.proofs.Math.Seq.{take-append_seam}
use Rattle.csub_objects.specs.Types.{Name}
use Rattle.csub_semantics.specs.Points.{PointTree, exit, ExitTree, next}
use Rattle.csub_semantics.specs.Syntax.{ProgramTree}
use Rattle.csub_semantics.specs.Flows.{flow_of}
use Rattle.csub_semantics.specs.Numbers.{site, site_at, edge_at}
use Rattle.csub_semantics.specs.Books as books
use Rattle.csub_semantics.specs.Books.{Together, CallsAt, IsNoCallAt, step, over, Justified}
use Rattle.flow_graph.specs.Graph.{Tables, IsGraphOf, point_count}
use Rattle.dual_walk.specs.declared.fact.Fact.{Fact}
use Rattle.dual_walk.specs.declared.fact.Why.{Why}
use Rattle.dual_walk.specs.declared.fact.Why.TheVariants.{Step, Over}
use Rattle.dual_walk.specs.declared.ask.Pair.{Pair}
use Rattle.dual_walk.specs.declared.pairs.Pairs.{Pairs}
use Rattle.dual_walk.specs.Books.{IsNamed, exit_in, named_facts, LeavesFrom, IsExplained, AreReasoned}
use Rattle.dual_walk.specs.Held.{AreAt, HasPair, IsHeld, Extends, IsWithin, IsBookOf}
use Rattle.dual_walk.specs.Callees.{AreTogether}
use Rattle.dual_walk.specs.Moments.{IsMoment, PassesOver}
use Rattle.dual_walk.proofs.LawsLists.{get_push, append_nil}
use Rattle.dual_walk.proofs.LawsFacts.{one_at, at_named, get_named, by_names}

module _ (P P' : ProgramTree) where
  -- the successors of a fact, by its function's number
  next_named : (from : Fact) (why : Why) (f : Name) (p p' : PointTree) (x : ExitTree) (pair : Pair) → IsNamed P P' from → AreAt P P' from.old from.new f p p' → (t : AreTogether P P' f p p' x pair) → IsNamed P P' (record { function = from.function; old = pair.old; new = pair.new; why = why })
  next_named from why f p p' x pair n at t = record {
    name = f;
    point = t.to;
    other = t.to';
    function = n.function ∙ ap Some (one_at P P' from.old from.new n.name f n.point n.other p p' (at_named P P' from n) at).function;
    old = t.at.old;
    new = t.at.new;
  }

  -- a step from a fact along an edge
  pub step_explained : (facts : List Fact) (at e : ℕ) (from : Fact) (f : Name) (p p' : PointTree) (x : ExitTree) (pair : Pair) → slice_get facts at ≡ Some from → IsNamed P P' from → AreAt P P' from.old from.new f p p' → IsNoCallAt (flow_of P) f p → (l : LeavesFrom P e from.old) → x ≡ l.edge.exit → AreTogether P P' f p p' x pair → IsExplained P P' facts (record { function = from.function; old = pair.old; new = pair.new; why = Step at e })
  unfolding next_named
  step_explained facts at e from f p p' x pair stands n is plain l same t =
      let c : Fact = record { function = from.function; old = pair.old; new = pair.new; why = Step at e } in
      let named = next_named from (Step at e) f p p' x pair n is t in
      let label : x ≡ exit_in (edge_at P e) = same ∙ sym (ap exit_in l.numbered) in
      record {
        named = named;
        justified = by_names P P' (named_facts P P' facts) c named (step at (exit_in (edge_at P e)))
            (subst (λ y. Justified (flow_of P) (flow_of P') (named_facts P P' facts) (books.fact f t.to t.to') (step at y)) label (p, p', get_named P P' facts at from f p p' stands n is, plain, t.both));
        along = (from, stands, l);
      }

  -- over a call
  pub over_explained : (facts : List Fact) (at back : ℕ) (from : Fact) (f : Name) (p p' : PointTree) (pair : Pair) → AreReasoned P P' facts → PassesOver P P' facts at back → slice_get facts at ≡ Some from → AreAt P P' from.old from.new f p p' → AreTogether P P' f p p' next pair → IsExplained P P' facts (record { function = from.function; old = pair.old; new = pair.new; why = Over at back })
  unfolding next_named
  over_explained facts at back from f p p' pair are over' stands is t =
      let c : Fact = record { function = from.function; old = pair.old; new = pair.new; why = Over at back } in
      let n = (are.each at from stands).named in
      let named = next_named from (Over at back) f p p' next pair n is t in
      let one : over'.call ≡ from = same_Some over'.call from (sym over'.stands ∙ stands) in
      let same = one_at P P' from.old from.new over'.comes.function f over'.comes.point over'.comes.other p p' (subst (λ (d : Fact). AreAt P P' d.old d.new over'.comes.function over'.comes.point over'.comes.other) one over'.comes.at) is in
      let called : CallsAt (flow_of P) f p over'.comes.callee = subst₂ (λ g q. CallsAt (flow_of P) g q over'.comes.callee) same.function same.old over'.comes.calls in
      record {
        named = named;
        justified = by_names P P' (named_facts P P' facts) c named (over at back)
            (p, p', over'.comes.callee, get_named P P' facts at from f p p' stands n is, get_named P P' facts back over'.back over'.comes.callee exit exit over'.stands' (are.each back over'.back over'.stands').named over'.comes.exits, called, t.both);
        along = tt;
      }

-- a fact is added, if its pair isn't held
abbrev pub IsAdded : List Fact → List Fact → Fact → Type 0
IsAdded before after c = (after ≡ before) ⊎ ((HasPair before c.old c.new → ⊥) × (after ≡ before ++ c ∷ []))

pub extends_added : (a b : List Fact) (c : Fact) → IsAdded a b c → Extends a b
extends_added a b c (inl e) = record { more = []; is = e ∙ sym (append_nil a) }
extends_added a b c (inr e) = record { more = c ∷ []; is = e.1 }

-- a book with one more fact
module _ (g g' : Tables) (facts : List Fact) (c : Fact) (book : IsBookOf g g' facts) (within : IsWithin g g' c) (why : (P P' : ProgramTree) → IsGraphOf g P → IsGraphOf g' P' → IsExplained P P' facts c) where
  abbrev Front : ℕ → Fact → Type 0
  Front i d = (slice_get facts i ≡ Some d) ⊎ ((i ≡ length facts) × (d ≡ c))

  book_push : (HasPair facts c.old c.new → ⊥) → IsBookOf g g' (facts ++ c ∷ [])
  book_push free = record {
    reasoned = λ P P' ok ok'. record { each = λ i d e. reason P P' ok ok' i d (get_push facts c i d e) };
    once = λ i j d e di ej old new. one i j d e old new (get_push facts c i d di) (get_push facts c j e ej);
    within = λ i d e. inside i d (get_push facts c i d e);
  }
    where
      reason : (P P' : ProgramTree) → IsGraphOf g P → IsGraphOf g' P' → (i : ℕ) (d : Fact) → Front i d → IsExplained P P' (take i (facts ++ c ∷ [])) d
      reason P P' ok ok' i d (inl h) =
          let l = slice_get_within facts i d h in
          let w : i ≤ length facts = omega arith in
          subst (λ l. IsExplained P P' l d) (sym (take-append-le i facts (c ∷ []) w)) ((book.reasoned P P' ok ok').each i d h)
      reason P P' ok ok' i d (inr h) =
          let whole : take i (facts ++ c ∷ []) ≡ facts = ap (λ n. take n (facts ++ c ∷ [])) h.0 ∙ take-append_seam facts (c ∷ []) in
          subst₂ (λ l f. IsExplained P P' l f) (sym whole) (sym h.1) (why P P' ok ok')

      apart : (i : ℕ) (d : Fact) → slice_get facts i ≡ Some d → d.old ≡ c.old → d.new ≡ c.new → ⊥
      apart i d e o n = free (record { place = i; fact = d; stands = e; old = o; new = n })

      one : (i j : ℕ) (d e : Fact) → d.old ≡ e.old → d.new ≡ e.new → Front i d → Front j e → i ≡ j
      one i j d e o n (inl a) (inl b) = book.once i j d e a b o n
      one i j d e o n (inl a) (inr b) = absurd (apart i d a (o ∙ ap (λ (f : Fact). f.old) b.1) (n ∙ ap (λ (f : Fact). f.new) b.1))
      one i j d e o n (inr a) (inl b) = absurd (apart j e b (sym o ∙ ap (λ (f : Fact). f.old) a.1) (sym n ∙ ap (λ (f : Fact). f.new) a.1))
      one i j d e o n (inr a) (inr b) = a.0 ∙ sym b.0

      inside : (i : ℕ) (d : Fact) → Front i d → IsWithin g g' d
      inside i d (inl h) = book.within i d h
      inside i d (inr h) = subst (IsWithin g g') (sym h.1) within

  pub book_more : (after : List Fact) → IsAdded facts after c → IsBookOf g g' after
  book_more after (inl is) = subst (IsBookOf g g') (sym is) book
  book_more after (inr is) = subst (IsBookOf g g') (sym is.1) (book_push is.0)

-- after a fact is added
pub moment_more : (g g' : Tables) (before after : Pairs) (c : Fact) → IsMoment g g' before → IsWithin g g' c → ((P P' : ProgramTree) → IsGraphOf g P → IsGraphOf g' P' → IsExplained P P' before.facts.items c) → after.held.height ≡ before.held.height → after.held.width ≡ before.held.width → IsAdded before.facts.items after.facts.items c → IsMoment g g' after
moment_more g g' before after c ok within why height width facts = record {
  height = height ∙ ok.height;
  width = width ∙ ok.width;
  book = book_more g g' before.facts.items c ok.book within why after.facts.items facts;
}

-- before any fact
pub moment_none : (g g' : Tables) (pairs : Pairs) → pairs.facts.items ≡ [] → pairs.held.height ≡ point_count g → pairs.held.width ≡ point_count g' → IsMoment g g' pairs
moment_none g g' pairs none height width = record { height = height; width = width; book = subst (IsBookOf g g') (sym none) empty }
  where
    empty : IsBookOf g g' []
    empty = record {
      reasoned = λ P P' ok ok'. record { each = λ i c e. cc };
      once = λ i j c d e. cc;
      within = λ i c e. cc;
    }

-- the pair of successors that is held is that of the points
pub together_held : (P P' : ProgramTree) (facts : List Fact) (f : Name) (p p' q q' : PointTree) (x : ExitTree) (pair : Pair) → AreTogether P P' f p p' x pair → HasPair facts pair.old pair.new → Together (flow_of P) (flow_of P') f p p' x q q' → IsHeld P P' facts f q q'
together_held P P' facts f p p' q q' x pair t h both =
    let old : t.to ≡ q = same_Some t.to q (sym t.both.old ∙ both.old) in
    let new : t.to' ≡ q' = same_Some t.to' q' (sym t.both.new ∙ both.new) in
    record {
      place = h.place;
      fact = h.fact;
      stands = h.stands;
      at =
          record {
            old = ap (site_at P) h.old ∙ t.at.old ∙ ap (λ r. Some (site f r)) old;
            new = ap (site_at P') h.new ∙ t.at.new ∙ ap (λ r. Some (site f r)) new;
          };
    }

-- what follows after an Ok
pub on_ok_2 : {X Y P Q S : Type 0} (r : Result X Y) → (P → Q → S) → OnOk r P → OnOk r Q → OnOk r S
on_ok_2 (Ok x) f p q = f p q
on_ok_2 (Err e) f p q = tt
