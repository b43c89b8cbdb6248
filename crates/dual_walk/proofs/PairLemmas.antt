-- Facts with the set of their pairs and an index of their places.
use Rattle.std.proofs.Common.{◌≡◌, ℕ, ◌+◌, ◌-◌, ◌<◌, ◌≤◌, ◌&&◌, List, [], ◌∷◌, ◌++◌, length, get_or, set, replicate, Some, nat_eq, IsTrue, refl, sym, ap, ◌∙◌, subst₂, ◌⊎◌, ◌↔◌, inl, inr, arith, zero, suc, length-append, get_or-set_same, get_or-set_other}
use Rattle.std.specs.Prelude.{slice_get}
use Rattle.std.proofs.lemmas.Bool.{cases_eq, cases_lt, and_from, and_parts, or_left, or_right, or_cases, eqb-true, eq-eqb, false≢true}
use Rattle.std.proofs.lemmas.Option.{slice_get_within, get_or_from_slice_get, same_Some}
use Rattle.dual_walk.specs.declared.fact.Fact.{Fact}
use Rattle.dual_walk.specs.declared.pair_set.PairSet.{PairSet}
use Rattle.dual_walk.specs.Bits.{IsIn}
use Rattle.dual_walk.specs.Held.{HasPair, has_pair}
use Rattle.dual_walk.proofs.LawsLists.{get_left, get_push, get_last, read_at}

-- the test says whether the pair stands among the facts
pub pair_tested : (facts : List Fact) (n n' : ℕ) → HasPair facts n n' → IsTrue (has_pair facts n n')
pair_tested facts n n' h = at facts h.place h.fact h.stands h.old h.new
  where
    at : (facts : List Fact) (i : ℕ) (c : Fact) → slice_get facts i ≡ Some c → c.old ≡ n → c.new ≡ n' → IsTrue (has_pair facts n n')
    at [] i c e old new = cc
    at (x ∷ facts) zero c e old new =
        let same : x ≡ c = cc in
        or_left (nat_eq x.old n && nat_eq x.new n') (has_pair facts n n')
        (and_from (nat_eq x.old n) (nat_eq x.new n') (eq-eqb x.old n (ap (λ (f : Fact). f.old) same ∙ old)) (eq-eqb x.new n' (ap (λ (f : Fact). f.new) same ∙ new)))
    at (x ∷ facts) (suc i) c e old new = or_right (nat_eq x.old n && nat_eq x.new n') (has_pair facts n n') (at facts i c e old new)

pub pair_found : (facts : List Fact) (n n' : ℕ) → IsTrue (has_pair facts n n') → HasPair facts n n'
pair_found [] n n' t = absurd (false≢true t)
pair_found (x ∷ facts) n n' t = pick (or_cases (nat_eq x.old n && nat_eq x.new n') (has_pair facts n n') t) (pair_found facts n n')
  where
    pick : IsTrue (nat_eq x.old n && nat_eq x.new n') ⊎ IsTrue (has_pair facts n n') → (IsTrue (has_pair facts n n') → HasPair facts n n') → HasPair (x ∷ facts) n n'
    pick (inl here) rest =
        let both = and_parts (nat_eq x.old n) (nat_eq x.new n') here in
        record { place = 0; fact = x; stands = refl; old = eqb-true x.old n both.0; new = eqb-true x.new n' both.1 }
    pick (inr there) rest = let h = rest there in record { place = suc h.place; fact = h.fact; stands = h.stands; old = h.old; new = h.new }

-- the pairs in the set are those of the facts
abbrev pub Marks : List Fact → PairSet → Type 0
Marks facts held = (n n' : ℕ) → IsIn held.width held.words.items n n' ↔ IsTrue (has_pair facts n n')

pub marks_held : (facts : List Fact) (held : PairSet) → Marks facts held → (n n' : ℕ) → IsIn held.width held.words.items n n' ↔ HasPair facts n n'
marks_held facts held m n n' = (λ h. pair_found facts n n' ((m n n').0 h), λ h. (m n n').1 (pair_tested facts n n' h))

-- no facts
pub no_end : (c n : ℕ) → ◌≡◌ {A = ℕ} (get_or (replicate c 0) n 0) 0
no_end zero n = refl
no_end (suc c) zero = refl
no_end (suc c) (suc n) = no_end c n

-- one more fact
module _ (facts : List Fact) (ends ends' : List ℕ) (c : Fact) (long : c.old < length ends) (is : ends' ≡ set ends c.old (length facts + 1))
    (below : (n : ℕ) → get_or ends n 0 ≤ length facts) (before : (i : ℕ) (d : Fact) → slice_get facts i ≡ Some d → i < get_or ends d.old 0) where
  end_here : get_or ends' c.old 0 ≡ length facts + 1
  end_here = ap (λ l. get_or l c.old 0) is ∙ get_or-set_same ends c.old (length facts + 1) 0 long

  end_there : (n : ℕ) → (n ≡ c.old → ⊥) → get_or ends' n 0 ≡ get_or ends n 0
  end_there n other = ap (λ l. get_or l n 0) is ∙ get_or-set_other ends c.old n (length facts + 1) 0 other

  longer : length (facts ++ c ∷ []) ≡ length facts + 1
  longer = length-append facts (c ∷ [])

  pub below_more : (n : ℕ) → get_or ends' n 0 ≤ length (facts ++ c ∷ [])
  below_more n = pick (cases_eq n c.old)
    where
      pick : (n ≡ c.old) ⊎ (n ≡ c.old → ⊥) → get_or ends' n 0 ≤ length (facts ++ c ∷ [])
      pick (inl e) = let at = ap (λ m. get_or ends' m 0) e ∙ end_here in omega (arith, at, longer)
      pick (inr o) = let at = end_there n o in let b = below n in omega (arith, at, b, longer)

  pub before_more : (i : ℕ) (d : Fact) → slice_get (facts ++ c ∷ []) i ≡ Some d → i < get_or ends' d.old 0
  before_more i d e = pick (get_push facts c i d e) (cases_eq d.old c.old)
    where
      pick : (slice_get facts i ≡ Some d) ⊎ ((i ≡ length facts) × (d ≡ c)) → (d.old ≡ c.old) ⊎ (d.old ≡ c.old → ⊥) → i < get_or ends' d.old 0
      pick (inl a) (inl e) = let at = ap (λ m. get_or ends' m 0) e ∙ end_here in let w = slice_get_within facts i d a in omega (arith, at, w)
      pick (inl a) (inr o) = let at = end_there d.old o in let b = before i d a in omega (arith, at, b)
      pick (inr b) h = let at = ap (λ (f : Fact). get_or ends' f.old 0) b.1 ∙ end_here in let place = b.0 in omega (arith, at, place)

pub has_last : (facts : List Fact) (c : Fact) → HasPair (facts ++ c ∷ []) c.old c.new
has_last facts c = record { place = length facts; fact = c; stands = get_last facts c; old = refl; new = refl }

pub marks_more : (facts : List Fact) (c : Fact) (held held' : PairSet) → Marks facts held
    → ((n n' : ℕ) → IsIn held'.width held'.words.items n n' ↔ (IsIn held.width held.words.items n n' ⊎ ((n ≡ c.old) × (n' ≡ c.new)))) → Marks (facts ++ c ∷ []) held'
marks_more facts c held held' m adds n n' = (λ h. pair_tested (facts ++ c ∷ []) n n' (to ((adds n n').0 h)), λ h. (adds n n').1 (from (pair_found (facts ++ c ∷ []) n n' h)))
  where
    to : IsIn held.width held.words.items n n' ⊎ ((n ≡ c.old) × (n' ≡ c.new)) → HasPair (facts ++ c ∷ []) n n'
    to (inl h) = let p = pair_found facts n n' ((m n n').0 h) in record { place = p.place; fact = p.fact; stands = get_left facts (c ∷ []) p.place p.fact p.stands; old = p.old; new = p.new }
    to (inr h) = subst₂ (λ a b. HasPair (facts ++ c ∷ []) a b) (sym h.0) (sym h.1) (has_last facts c)

    from : HasPair (facts ++ c ∷ []) n n' → IsIn held.width held.words.items n n' ⊎ ((n ≡ c.old) × (n' ≡ c.new))
    from h = pick (get_push facts c h.place h.fact h.stands)
      where
        pick : (slice_get facts h.place ≡ Some h.fact) ⊎ ((h.place ≡ length facts) × (h.fact ≡ c)) → IsIn held.width held.words.items n n' ⊎ ((n ≡ c.old) × (n' ≡ c.new))
        pick (inl a) = inl ((m n n').1 (pair_tested facts n n' (record { place = h.place; fact = h.fact; stands = a; old = h.old; new = h.new })))
        pick (inr b) = inr (sym h.old ∙ ap (λ (f : Fact). f.old) b.1, sym h.new ∙ ap (λ (f : Fact). f.new) b.1)

-- a pair that is held lies within the bounds of the set
pub pair_row : (facts : List Fact) (ends : List ℕ) (n n' : ℕ) → ((i : ℕ) (c : Fact) → slice_get facts i ≡ Some c → i < get_or ends c.old 0) → HasPair facts n n' → n < length ends
pair_row facts ends n n' before h = within ends n (let b = before h.place h.fact h.stands in let at = ap (λ m. get_or ends m 0) h.old in omega (arith, b, at))
  where
    within : (ends : List ℕ) (n : ℕ) → 0 < get_or ends n 0 → n < length ends
    within [] n h = absurd (omega (arith, h))
    within (x ∷ ends) zero h = omega arith
    within (x ∷ ends) (suc n) h = let l = within ends n h in omega (arith, l)

pub pair_column : (facts : List Fact) (held : PairSet) → Marks facts held → (n n' : ℕ) → HasPair facts n n' → n' < held.width
pair_column facts held m n n' h = ((m n n').1 (pair_tested facts n n' h)).row

-- an end that was read is that of its point
pub end_read : (ends : List ℕ) (old at : ℕ) → old < length ends → at ≡ get_or ends old at → get_or ends old 0 ≡ at
end_read ends old at within read = get_or_from_slice_get ends old at 0 (read_at ends old at within read)

-- where no fact of a pair stands from a place on, and none right before it, none does from there
pub none_before : (facts : List Fact) (at : ℕ) (here : Fact) (old new : ℕ) → 0 < at → at ≤ length facts → here ≡ get_or facts (at - 1) here → ((here.old ≡ old) × (here.new ≡ new) → ⊥)
    → ((k : ℕ) (c : Fact) → at ≤ k → slice_get facts k ≡ Some c → c.old ≡ old → c.new ≡ new → ⊥)
    → (k : ℕ) (c : Fact) → at - 1 ≤ k → slice_get facts k ≡ Some c → c.old ≡ old → c.new ≡ new → ⊥
none_before facts at here old new some upto read other behind k c from stands is_old is_new = pick (cases_lt k at)
  where
    pick : (k < at) ⊎ (at ≤ k) → ⊥
    pick (inr later) = behind k c later stands is_old is_new
    pick (inl below) =
        let same : at - 1 ≡ k = omega (arith, from, below, some) in
        let within : at - 1 < length facts = omega (arith, some, upto) in
        let is : here ≡ c = same_Some here c (sym (read_at facts (at - 1) here within read) ∙ ap (slice_get facts) same ∙ stands) in
        other (ap (λ (b : Fact). b.old) is ∙ is_old, ap (λ (b : Fact). b.new) is ∙ is_new)
