-- What stands at a place of a list, and what a list contains.
use Rattle.std.proofs.Common.{◌≡◌, ℕ, zero, suc, ◌<◌, ◌≤◌, false, IsTrue, List, [], ◌∷◌, ◌++◌, length, get_or, replicate, take, Some, refl, sym, ap, ◌∙◌, subst, ◌⊎◌, inl, inr, arith}
use Rattle.std.specs.Prelude.{slice_get, slice_index_or, Contains, AllPairs}
use Rattle.std.specs.List.{AllZip}
use Rattle.std.proofs.lemmas.Bool.{cases_lt}
use Rattle.std.proofs.lemmas.Option.{slice_get_within, get_or_from_slice_get, same_Some}

module _ {X : Type 0} where
  -- in the front of a list stands what stands in the list
  pub take_get : (n : ℕ) (xs : List X) (i : ℕ) (x : X) → i < n → slice_get xs i ≡ Some x → slice_get (take n xs) i ≡ Some x
  take_get zero xs i x l e = absurd (omega arith)
  take_get (suc n) [] i x l e = e
  take_get (suc n) (y ∷ xs) zero x l e = e
  take_get (suc n) (y ∷ xs) (suc i) x l e = take_get n xs i x (omega arith) e

-- two lists, place by place
module _ {X : Type 0} {Y : Type 0} where
  pub zip_push : (R : X → Y → Type 0) (xs : List X) (ys : List Y) (x : X) (y : Y) → AllZip R xs ys → R x y → AllZip R (xs ++ x ∷ []) (ys ++ y ∷ [])
  zip_push R [] [] x y h r = (r, tt)
  zip_push R [] (b ∷ ys) x y h r = absurd h
  zip_push R (a ∷ xs) [] x y h r = absurd h
  zip_push R (a ∷ xs) (b ∷ ys) x y h r = (h.0, zip_push R xs ys x y h.1 r)

  pub zip_weaker : (R S : X → Y → Type 0) → ((x : X) (y : Y) → R x y → S x y) → (xs : List X) (ys : List Y) → AllZip R xs ys → AllZip S xs ys
  zip_weaker R S f [] [] h = tt
  zip_weaker R S f [] (b ∷ ys) h = absurd h
  zip_weaker R S f (a ∷ xs) [] h = absurd h
  zip_weaker R S f (a ∷ xs) (b ∷ ys) h = (f a b h.0, zip_weaker R S f xs ys h.1)

  pub zip_long : (R : X → Y → Type 0) (xs : List X) (ys : List Y) → AllZip R xs ys → length xs ≡ length ys
  zip_long R [] [] h = refl
  zip_long R [] (b ∷ ys) h = absurd h
  zip_long R (a ∷ xs) [] h = absurd h
  zip_long R (a ∷ xs) (b ∷ ys) h = ap suc (zip_long R xs ys h.1)

  -- what stands beside an element of the first list, and of the second
  pub zip_right : (R : X → Y → Type 0) (xs : List X) (ys : List Y) (i : ℕ) (x : X) → AllZip R xs ys → slice_get xs i ≡ Some x → (y : Y) × (slice_get ys i ≡ Some y) × R x y
  zip_right R [] [] i x h e = absurd cc
  zip_right R [] (b ∷ ys) i x h e = absurd h
  zip_right R (a ∷ xs) [] i x h e = absurd h
  zip_right R (a ∷ xs) (b ∷ ys) zero x h e = let same : a ≡ x = cc in (b, refl, subst (λ z. R z b) same h.0)
  zip_right R (a ∷ xs) (b ∷ ys) (suc i) x h e = zip_right R xs ys i x h.1 e

  pub zip_left : (R : X → Y → Type 0) (xs : List X) (ys : List Y) (i : ℕ) (y : Y) → AllZip R xs ys → slice_get ys i ≡ Some y → (x : X) × (slice_get xs i ≡ Some x) × R x y
  zip_left R [] [] i y h e = absurd cc
  zip_left R [] (b ∷ ys) i y h e = absurd h
  zip_left R (a ∷ xs) [] i y h e = absurd h
  zip_left R (a ∷ xs) (b ∷ ys) zero y h e = let same : b ≡ y = cc in (a, refl, subst (R a) same h.0)
  zip_left R (a ∷ xs) (b ∷ ys) (suc i) y h e = zip_left R xs ys i y h.1 e

-- no flag is set
pub unset : (n i : ℕ) → IsTrue (slice_index_or (replicate n false) i false) → ⊥
unset zero i h = cc
unset (suc n) zero h = cc
unset (suc n) (suc i) h = unset n i h

-- lists of one number and of two
pub one_place : (j i : ℕ) → Contains (j ∷ []) i → i ≡ j
one_place j i h = pick h.0 h.1 h.2
  where
    pick : (k : ℕ) → k < 1 → get_or (j ∷ []) k i ≡ i → i ≡ j
    pick zero l e = sym e
    pick (suc k) l e = absurd (omega arith)

pub two_places : (j m i : ℕ) → Contains (j ∷ m ∷ []) i → (i ≡ j) ⊎ (i ≡ m)
two_places j m i h = pick h.0 h.1 h.2
  where
    pick : (k : ℕ) → k < 2 → get_or (j ∷ m ∷ []) k i ≡ i → (i ≡ j) ⊎ (i ≡ m)
    pick zero l e = inl (sym e)
    pick (suc zero) l e = inr (sym e)
    pick (suc (suc k)) l e = absurd (omega arith)

-- numbers that rise
module _ (places : List ℕ) (rising : AllPairs (λ i j. i < j) places) where
  -- a smaller one stands earlier, and each stands once
  pub places_before : (i k a b : ℕ) → slice_get places i ≡ Some a → slice_get places k ≡ Some b → b < a → k < i
  places_before i k a b ea eb less = pick (cases_lt k i)
    where
      later : (i < k) ⊎ (k ≤ i) → i ≤ k → k < i
      later (inl l) within =
          let w = slice_get_within places k b eb in
          let r = rising i k 0 l w in
          let x = get_or_from_slice_get places i a 0 ea in
          let y = get_or_from_slice_get places k b 0 eb in
          absurd (omega arith)
      later (inr l) within =
          let same : i ≡ k = omega arith in
          let one : a ≡ b = same_Some a b (sym ea ∙ ap (slice_get places) same ∙ eb) in
          absurd (omega arith)

      pick : (k < i) ⊎ (i ≤ k) → k < i
      pick (inl l) = l
      pick (inr l) = later (cases_lt i k) l

  pub places_once : (i k a : ℕ) → slice_get places i ≡ Some a → slice_get places k ≡ Some a → i ≡ k
  places_once i k a ei ek = pick (cases_lt i k) (cases_lt k i)
    where
      clash : (n m : ℕ) → n < m → slice_get places n ≡ Some a → slice_get places m ≡ Some a → ⊥
      clash n m l en em =
          let w = slice_get_within places m a em in
          let r = rising n m 0 l w in
          let x = get_or_from_slice_get places n a 0 en in
          let y = get_or_from_slice_get places m a 0 em in
          omega arith

      pick : (i < k) ⊎ (k ≤ i) → (k < i) ⊎ (i ≤ k) → i ≡ k
      pick (inl l) r = absurd (clash i k l ei ek)
      pick (inr l) (inl r) = absurd (clash k i r ek ei)
      pick (inr l) (inr r) = omega arith
