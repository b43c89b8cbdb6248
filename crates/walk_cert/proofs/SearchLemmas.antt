-- Where a pair stands in a rising list.
use Rattle.std.proofs.Common.{◌≡◌, ◌<◌, ◌≤◌, ℕ, zero, suc, Option, Some, None, List, [], ◌∷◌, length, get_or, IsTrue, refl, sym, ap, subst, ◌∙◌, ◌↔◌, inl, inr, arith}
use Rattle.std.specs.Prelude.{Result, Ok, Err}
use Rattle.std.specs.List.{slice_get}
use Rattle.std.specs.List.Sorted.{IsBinarySearchResult, IsNonDecreasingBy, IsPartitionPoint, IsSearchInRange}
use Rattle.std.specs.declared.cmp.Ordering.{Ordering}
use Rattle.std.specs.declared.cmp.Ordering.TheVariants.{Less, Equal, Greater}
use Rattle.std.specs.Ordering.{MatchOrdering, nat_cmp, ordering_then, ordering_index}
use Rattle.std.specs.Result.{is_ok}
use Rattle.std.proofs.lemmas.Bool.{cases_lt}
use Rattle.std.proofs.lemmas.Option.{same_Some, slice_get_within, slice_get-get_or}
use Rattle.std.specs.Cmp.{ranks as ranked}
use Rattle.cert_text.specs.declared.pair.Pair.{Pair}
use Rattle.cert_text.specs.Certificates.{IsBefore, RiseAfter, Rise}
use Rattle.walk_cert.specs.Pairs.{HasPair}

before_trans : (a b c : Pair) → IsBefore a b → IsBefore b c → IsBefore a c
before_trans a b c (inl h) (inl k) = inl (omega arith)
before_trans a b c (inl h) (inr k) = inl (omega (arith, h, k.0))
before_trans a b c (inr h) (inl k) = inl (omega (arith, h.0, k))
before_trans a b c (inr h) (inr k) = inr (h.0 ∙ k.0, omega (arith, h.1, k.1))

before_none : (a b : Pair) → a.old ≡ b.old → a.new ≡ b.new → ¬ IsBefore a b
before_none a b old new (inl h) = omega arith
before_none a b old new (inr h) = omega (arith, h.1)

later : (a : Pair) (pairs : List Pair) (k : ℕ) (b : Pair) → RiseAfter IsBefore (Some a) pairs → slice_get pairs k ≡ Some b → IsBefore a b
later a [] k b rise is = cc is
later a (c ∷ pairs) zero b rise is = subst (IsBefore a) (same_Some c b is) rise.0
later a (c ∷ pairs) (suc k) b rise is = before_trans a c b rise.0 (later c pairs k b rise.1 is)

-- of two places the earlier has the earlier pair
in_order : (last : Option Pair) (pairs : List Pair) (i k : ℕ) (a b : Pair) → RiseAfter IsBefore last pairs → slice_get pairs i ≡ Some a → slice_get pairs k ≡ Some b → i < k → IsBefore a b
in_order last [] i k a b rise at there less = cc at
in_order last (c ∷ pairs) zero zero a b rise at there less = absurd (omega arith)
in_order last (c ∷ pairs) zero (suc k) a b rise at there less = later a pairs k b (subst (λ x. RiseAfter IsBefore (Some x) pairs) (same_Some c a at) rise.1) there
in_order last (c ∷ pairs) (suc i) zero a b rise at there less = absurd (omega arith)
in_order last (c ∷ pairs) (suc i) (suc k) a b rise at there less = in_order (Some c) pairs i k a b rise.1 at there (omega arith)

-- how the search compares two pairs
abbrev pub compared : Pair → Pair → Ordering
compared a b = ordering_then (nat_cmp a.old b.old) (nat_cmp a.new b.new)

ranks : (a b : Pair) → MatchOrdering (compared a b) (IsBefore a b) ((a.old ≡ b.old) × (a.new ≡ b.new)) (IsBefore b a)
ranks a b = pick (nat_cmp a.old b.old) (ranked a.old b.old) (nat_cmp a.new b.new) (ranked a.new b.new)
  where
    pick : (o : Ordering) → MatchOrdering o (a.old < b.old) (a.old ≡ b.old) (b.old < a.old) → (n : Ordering) → MatchOrdering n (a.new < b.new) (a.new ≡ b.new) (b.new < a.new)
        → MatchOrdering (ordering_then o n) (IsBefore a b) ((a.old ≡ b.old) × (a.new ≡ b.new)) (IsBefore b a)
    pick Less h n k = inl h
    pick Equal h Less k = inr (h, k)
    pick Equal h Equal k = (h, k)
    pick Equal h Greater k = inr (sym h, k)
    pick Greater h n k = inl h

-- against one pair, an earlier pair compares as no more than a later one
index_rises : (a b w : Pair) → IsBefore a b → ordering_index (compared a w) ≤ ordering_index (compared b w)
index_rises a b w before = pick (compared a w) (ranks a w) (compared b w) (ranks b w)
  where
    pick : (o : Ordering) → MatchOrdering o (IsBefore a w) ((a.old ≡ w.old) × (a.new ≡ w.new)) (IsBefore w a) → (n : Ordering) → MatchOrdering n (IsBefore b w) ((b.old ≡ w.old) × (b.new ≡ w.new)) (IsBefore w b) → ordering_index o ≤ ordering_index n
    pick Less h n k = omega arith
    pick Equal h Less k = absurd (before_none a w h.0 h.1 (before_trans a b w before k))
    pick Equal h Equal k = omega arith
    pick Equal h Greater k = omega arith
    pick Greater h Less k = absurd (before_none w w refl refl (before_trans w a w h (before_trans a b w before k)))
    pick Greater h Equal k = absurd (before_none w b (sym k.0) (sym k.1) (before_trans w a b h before))
    pick Greater h Greater k = omega arith

all_rise : (pairs : List Pair) (w : Pair) → Rise pairs → IsNonDecreasingBy (λ p. ordering_index (compared p w)) pairs
all_rise pairs w rise i j d up within = elim (cases_lt i j) [
  | inl earlier ↦
      let a = get_or pairs i d in
      let b = get_or pairs j d in
      index_rises a b w (in_order None pairs i j a b rise (slice_get-get_or pairs i d (omega arith)) (slice_get-get_or pairs j d within) earlier)
  | inr same ↦
      let here : i ≡ j = omega arith in
      let one = ap (λ k. ordering_index (compared (get_or pairs k d) w)) here in omega arith
]

-- what an answer says of two pairs
by_order : (a b : Pair) (o : Ordering) → compared a b ≡ o → MatchOrdering o (IsBefore a b) ((a.old ≡ b.old) × (a.new ≡ b.new)) (IsBefore b a)
by_order a b o is = subst (λ o. MatchOrdering o (IsBefore a b) ((a.old ≡ b.old) × (a.new ≡ b.new)) (IsBefore b a)) is (ranks a b)

-- what the search answers
pub found : (pairs : List Pair) (w : Pair) (r : Result ℕ ℕ) → Rise pairs → IsSearchInRange r (length pairs) → IsBinarySearchResult (λ p. compared p w) pairs r → IsTrue (is_ok r) ↔ HasPair pairs w.old w.new
found pairs w (Ok i) rise range is = (
  λ _.
      let same = by_order (get_or pairs i w) w Equal (is w) in
      record { place = i; pair = get_or pairs i w; stands = slice_get-get_or pairs i w range; old_is = same.0; new_is = same.1 },
  λ _. refl,
)
found pairs w (Err i) rise range is = (λ no. absurd cc, λ has. absurd (nowhere has))
  where
    nowhere : ¬ HasPair pairs w.old w.new
    nowhere h = elim (cases_lt h.place i) [
      | inl before ↦ before_none here w old new (by_order here w Less (apart.0 h.place w (omega arith) before))
      | inr behind ↦ before_none w here (sym old) (sym new) (by_order here w Greater (apart.1 h.place w behind inside))
    ]
      where
        apart : IsPartitionPoint (λ p. compared p w ≡ Less) (λ p. compared p w ≡ Greater) pairs i
        apart = is (all_rise pairs w rise)

        inside : h.place < length pairs
        inside = slice_get_within pairs h.place h.pair h.stands

        here : Pair
        here = get_or pairs h.place w

        at : here ≡ h.pair
        at = same_Some here h.pair (sym (slice_get-get_or pairs h.place w inside) ∙ h.stands)

        old : here.old ≡ w.old
        old = ap (λ (p : Pair). p.old) at ∙ h.old_is

        new : here.new ≡ w.new
        new = ap (λ (p : Pair). p.new) at ∙ h.new_is
