-- Facts by names: they are a book, what they hold is reached, and they keep it as they grow.
use Rattle.std.proofs.Common.{◌≡◌, ℕ, ◌<◌, ◌≤◌, List, [], ◌∷◌, ◌++◌, length, take, option_map, Some, refl, sym, ap, ◌∙◌, subst, subst₂, arith, length-append}
use Rattle.std.specs.Prelude.{slice_get, Contains}
use Rattle.std.proofs.lemmas.List.{take-map}
use Rattle.std.proofs.lemmas.Option.{slice_get-map, slice_get_within, same_Some, get_or_from_slice_get}
use Rattle.csub_objects.specs.Types.{Name}
use Rattle.csub_semantics.specs.Points.{PointTree, entry}
use Rattle.csub_semantics.specs.Syntax.{ProgramTree}
use Rattle.csub_semantics.specs.Flows.{flow_of, start_name}
use Rattle.csub_semantics.specs.Numbers.{Site, site, site_at, name_at}
use Rattle.csub_semantics.specs.Books as books
use Rattle.csub_semantics.specs.Books.{SameLabel, Justified, IsBook, Reached}
use Rattle.csub_validity.specs.Valid.{IsValid}
use Rattle.program_laws.proofs.LawsFlows.{is_flow}
use Rattle.flow_graph.proofs.LawsLists.{Made, made_of}
use Rattle.flow_graph.proofs.LawsPlaces.{site_one}
use Rattle.dual_walk.specs.declared.fact.Fact.{Fact}
use Rattle.dual_walk.specs.declared.fact.Why.TheVariants.{Start}
use Rattle.dual_walk.specs.Books.{IsNamed, name_in, point_in, named_fact, named_facts, named_reason, AreReasoned, IsExplained}
use Rattle.dual_walk.specs.Held.{AreAt, HasPair, IsHeld, Extends}
use Rattle.dual_walk.proofs.LawsReaching.{reached_same}
use Rattle.dual_walk.proofs.LawsLists.{get_left, get_start, append_nil}

-- more facts
pub extends_more : {a b c : List Fact} → Extends a b → Extends b c → Extends a c
extends_more {a} {b} {c} h k = record { more = h.more ++ k.more; is = k.is ∙ ap (λ l. l ++ k.more) h.is ∙ appended a h.more k.more }
  where
    appended : (xs ys zs : List Fact) → (xs ++ ys) ++ zs ≡ xs ++ (ys ++ zs)
    appended [] ys zs = refl
    appended (x ∷ xs) ys zs = ap (λ l. x ∷ l) (appended xs ys zs)

pub extends_none : {a : List Fact} → Extends a a
extends_none {a} = record { more = []; is = sym (append_nil a) }

pub get_extends : {a b : List Fact} → Extends a b → (i : ℕ) (c : Fact) → slice_get a i ≡ Some c → slice_get b i ≡ Some c
get_extends {a} {b} h i c e = subst (λ l. slice_get l i ≡ Some c) (sym h.is) (get_left a h.more i c e)

pub get_back : {a b : List Fact} → Extends a b → (i : ℕ) (c : Fact) → i < length a → slice_get b i ≡ Some c → slice_get a i ≡ Some c
get_back {a} {b} h i c l e = get_start a h.more i c l (subst (λ s. slice_get s i ≡ Some c) h.is e)

pub pair_extends : {a b : List Fact} → Extends a b → (n n' : ℕ) → HasPair a n n' → HasPair b n n'
pair_extends x n n' h = record { place = h.place; fact = h.fact; stands = get_extends x h.place h.fact h.stands; old = h.old; new = h.new }

pub extends_long : {a b : List Fact} → Extends a b → length a ≤ length b
extends_long {a} {b} h = omega (arith, length-append a h.more, ap length h.is)

module _ (P P' : ProgramTree) where
  -- points with the same numbers are the same
  pub record SamePoints (f g : Name) (p p' q q' : PointTree) : Type 0 where
    pub function : f ≡ g
    pub old : p ≡ q
    pub new : p' ≡ q'

  pub one_at : (n n' : ℕ) (f g : Name) (p p' q q' : PointTree) → AreAt P P' n n' f p p' → AreAt P P' n n' g q q' → SamePoints f g p p' q q'
  one_at n n' f g p p' q q' a b =
      let old : site f p ≡ site g q = same_Some (site f p) (site g q) (sym a.old ∙ b.old) in
      let new : site f p' ≡ site g q' = same_Some (site f p') (site g q') (sym a.new ∙ b.new) in
      record { function = ap (λ (s : Site). s.function) old; old = ap (λ (s : Site). s.point) old; new = ap (λ (s : Site). s.point) new }

  pub at_named : (c : Fact) (n : IsNamed P P' c) → AreAt P P' c.old c.new n.name n.point n.other
  at_named c n = record { old = n.old; new = n.new }

  -- a fact by names
  pub named_as : (c : Fact) (n : IsNamed P P' c) → named_fact P P' c ≡ books.fact n.name n.point n.other
  named_as c n = λ i. books.fact (name_in (n.function i)) (point_in (n.old i)) (point_in (n.new i))

  pub named_at : (c : Fact) (f : Name) (p p' : PointTree) → IsNamed P P' c → AreAt P P' c.old c.new f p p' → named_fact P P' c ≡ books.fact f p p'
  named_at c f p p' n at =
      let same = one_at c.old c.new n.name f n.point n.other p p' (at_named c n) at in
      named_as c n ∙ (λ i. books.fact (same.function i) (same.old i) (same.new i))

  -- such a fact is of the points that it names
  pub fact_at : (c : Fact) (f : Name) (p p' : PointTree) → IsNamed P P' c → named_fact P P' c ≡ books.fact f p p' → AreAt P P' c.old c.new f p p'
  fact_at c f p p' n same = subst (λ (b : books.Fact). AreAt P P' c.old c.new b.function b.old b.new) (sym (named_as c n) ∙ same) (at_named c n)

  pub get_named : (facts : List Fact) (i : ℕ) (c : Fact) (f : Name) (p p' : PointTree) → slice_get facts i ≡ Some c → IsNamed P P' c → AreAt P P' c.old c.new f p p' → slice_get (named_facts P P' facts) i ≡ Some (books.fact f p p')
  get_named facts i c f p p' e n at = slice_get-map (named_fact P P') facts i ∙ ap (option_map (named_fact P P')) e ∙ ap Some (named_at c f p p' n at)

  -- the reason of a fact that is known by names
  pub by_names : (earlier : List books.Fact) (c : Fact) (n : IsNamed P P' c) (why : books.Reason) → Justified (flow_of P) (flow_of P') earlier (books.fact n.name n.point n.other) why → Justified (flow_of P) (flow_of P') earlier (named_fact P P' c) why
  by_names earlier c n why h = subst (λ f. Justified (flow_of P) (flow_of P') earlier f why) (sym (named_as c n)) h

  -- the entries of `#start` need no other fact
  pub start_explained : (facts : List Fact) (k : ℕ) → facts ≡ [] → name_at P k ≡ Some start_name → site_at P 0 ≡ Some (site start_name entry) → site_at P' 0 ≡ Some (site start_name entry)
      → IsExplained P P' facts (record { function = k; old = 0; new = 0; why = Start })
  start_explained facts k none name old new =
      let c : Fact = record { function = k; old = 0; new = 0; why = Start } in
      let named : IsNamed P P' (record { function = k; old = 0; new = 0; why = Start }) = record { name = start_name; point = entry; other = entry; function = name; old = old; new = new } in
      record { named = named; justified = by_names (named_facts P P' facts) c named books.start refl; along = tt }

  -- facts whose reasons justify them
  module _ (facts : List Fact) (are : AreReasoned P P' facts) where
    pub book_of : IsBook (flow_of P) (flow_of P') (named_facts P P' facts)
    book_of = record { each = λ i f e. by_reason i f (made_of (named_fact P P') (slice_get facts i) f (sym (slice_get-map (named_fact P P') facts i) ∙ e)) }
      where
        by_reason : (i : ℕ) (f : books.Fact) → Made (named_fact P P') (slice_get facts i) f → (why : books.Reason) × Justified (flow_of P) (flow_of P') (take i (named_facts P P' facts)) f why
        by_reason i f m =
            let x = are.each i m.value m.is in
            (named_reason P m.value.why, subst₂ (λ l g. Justified (flow_of P) (flow_of P') l g (named_reason P m.value.why)) (sym (take-map (named_fact P P') i facts)) m.gives x.justified)

    pub held_stands : (f : Name) (p p' : PointTree) (h : IsHeld P P' facts f p p') → slice_get (named_facts P P' facts) h.place ≡ Some (books.fact f p p')
    held_stands f p p' h = get_named facts h.place h.fact f p p' h.stands (are.each h.place h.fact h.stands).named h.at

    pub held_reached : (f : Name) (p p' : PointTree) → IsHeld P P' facts f p p' → Reached (flow_of P) (flow_of P') f p p'
    held_reached f p p' h = record { book = named_facts P P' facts; valid = book_of; place = h.place; stands = held_stands f p p' h }

    pub held_named : (f : Name) (p p' : PointTree) → IsHeld P P' facts f p p' → Contains (named_facts P P' facts) (books.fact f p p')
    held_named f p p' h =
        let stands = held_stands f p p' h in
        (h.place, slice_get_within (named_facts P P' facts) h.place (books.fact f p p') stands, get_or_from_slice_get (named_facts P P' facts) h.place (books.fact f p p') (books.fact f p p') stands)

    pub held_same : IsValid P → IsValid P' → (f : Name) (p p' : PointTree) → IsHeld P P' facts f p p' → SameLabel (flow_of P) (flow_of P') f p p'
    held_same valid valid' f p p' h = reached_same (flow_of P) (flow_of P') (is_flow P valid) (is_flow P' valid') f p p' (held_reached f p p' h)

  pub held_extends : {a b : List Fact} → Extends a b → (f : Name) (p p' : PointTree) → IsHeld P P' a f p p' → IsHeld P P' b f p p'
  held_extends x f p p' h = record { place = h.place; fact = h.fact; stands = get_extends x h.place h.fact h.stands; at = h.at }

  pub fact_held : (facts : List Fact) (i : ℕ) (c : Fact) (f : Name) (p p' : PointTree) → slice_get facts i ≡ Some c → AreAt P P' c.old c.new f p p' → IsHeld P P' facts f p p'
  fact_held facts i c f p p' e at = record { place = i; fact = c; stands = e; at = at }

-- the pair of a function's numbers
pub pair_held : (P P' : ProgramTree) (facts : List Fact) (n n' : ℕ) (f : Name) (p p' : PointTree) → AreAt P P' n n' f p p' → HasPair facts n n' → IsHeld P P' facts f p p'
pair_held P P' facts n n' f p p' at h = record {
  place = h.place;
  fact = h.fact;
  stands = h.stands;
  at = record { old = ap (site_at P) h.old ∙ at.old; new = ap (site_at P') h.new ∙ at.new };
}

pub held_pair : (P P' : ProgramTree) (facts : List Fact) (n n' : ℕ) (f : Name) (p p' : PointTree) → IsValid P → IsValid P' → AreAt P P' n n' f p p' → IsHeld P P' facts f p p' → HasPair facts n n'
held_pair P P' facts n n' f p p' valid valid' at h = record {
  place = h.place;
  fact = h.fact;
  stands = h.stands;
  old = site_one P valid h.fact.old n (site f p) h.at.old at.old;
  new = site_one P' valid' h.fact.new n' (site f p') h.at.new at.new;
}
