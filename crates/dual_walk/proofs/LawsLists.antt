-- What stands at a place of a list, and in lists by numbers.
use Rattle.std.proofs.Common.{◌≡◌, ℕ, zero, suc, ◌+◌, ◌<◌, ◌≤◌, List, [], ◌∷◌, ◌++◌, length, get_or, set, take, replicate, Some, refl, sym, ap, ◌∙◌, subst, ◌⊎◌, inl, inr, arith}
use Rattle.std.specs.Prelude.{slice_get, Contains}
use Rattle.std.proofs.lemmas.Option.{slice_get_within, slice_get-get_or, get_or_from_slice_get, same_Some}
use Rattle.dual_walk.specs.Rows.{Lists}

module _ {X : Type 0} where
  pub get_left : (xs ys : List X) (i : ℕ) (x : X) → slice_get xs i ≡ Some x → slice_get (xs ++ ys) i ≡ Some x
  get_left [] ys i x e = cc
  get_left (y ∷ xs) ys zero x e = e
  get_left (y ∷ xs) ys (suc i) x e = get_left xs ys i x e

  pub get_right : (xs ys : List X) (k : ℕ) → slice_get (xs ++ ys) (length xs + k) ≡ slice_get ys k
  get_right [] ys k = ap (slice_get ys) (omega arith)
  get_right (y ∷ xs) ys k =
      let e : suc (length xs) + k ≡ suc (length xs + k) = omega arith in
      ap (slice_get (y ∷ (xs ++ ys))) e ∙ get_right xs ys k

  -- what stands in two lists, one after the other, stands in the first or in the second
  pub record InFront (xs : List X) (i : ℕ) (x : X) : Type 0 where
    pub within : i ≤ length xs
    pub stands : slice_get xs i ≡ Some x

  pub record InBack (xs ys : List X) (i : ℕ) (x : X) : Type 0 where
    pub place : ℕ
    pub is : i ≡ length xs + place
    pub stands : slice_get ys place ≡ Some x

  pub get_cases : (xs ys : List X) (i : ℕ) (x : X) → slice_get (xs ++ ys) i ≡ Some x → InFront xs i x ⊎ InBack xs ys i x
  get_cases [] ys i x e = inr (record { place = i; is = omega arith; stands = e })
  get_cases (y ∷ xs) ys zero x e = inl (record { within = omega arith; stands = e })
  get_cases (y ∷ xs) ys (suc i) x e = go (get_cases xs ys i x e)
    where
      go : InFront xs i x ⊎ InBack xs ys i x → InFront (y ∷ xs) (suc i) x ⊎ InBack (y ∷ xs) ys (suc i) x
      go (inl f) = inl (record { within = omega (arith, f.within); stands = f.stands })
      go (inr b) = inr (record { place = b.place; is = omega (arith, b.is); stands = b.stands })

  pub get_take : (n : ℕ) (xs : List X) (i : ℕ) (x : X) → slice_get (take n xs) i ≡ Some x → (i < n) × (slice_get xs i ≡ Some x)
  get_take zero xs i x e = cc
  get_take (suc n) [] i x e = cc
  get_take (suc n) (y ∷ xs) zero x e = (omega arith, e)
  get_take (suc n) (y ∷ xs) (suc i) x e = let r = get_take n xs i x e in (omega (arith, r.0), r.1)

  pub append_nil : (xs : List X) → xs ++ [] ≡ xs
  append_nil [] = refl
  append_nil (x ∷ xs) = ap (λ l. x ∷ l) (append_nil xs)

  pub get_set_same : (xs : List X) (i : ℕ) (y : X) → i < length xs → slice_get (set xs i y) i ≡ Some y
  get_set_same [] i y l = absurd (omega arith)
  get_set_same (x ∷ xs) zero y l = refl
  get_set_same (x ∷ xs) (suc i) y l = get_set_same xs i y (omega arith)

  pub get_set_other : (xs : List X) (i j : ℕ) (y : X) → (j ≡ i → ⊥) → slice_get (set xs i y) j ≡ slice_get xs j
  get_set_other [] i j y n = refl
  get_set_other (x ∷ xs) zero zero y n = absurd (n refl)
  get_set_other (x ∷ xs) zero (suc j) y n = refl
  get_set_other (x ∷ xs) (suc i) zero y n = refl
  get_set_other (x ∷ xs) (suc i) (suc j) y n = get_set_other xs i j y (λ e. n (ap suc e))

  pub same_replicated : (c n : ℕ) (y x : X) → slice_get (replicate c y) n ≡ Some x → x ≡ y
  same_replicated zero n y x e = cc
  same_replicated (suc c) zero y x e = cc
  same_replicated (suc c) (suc n) y x e = same_replicated c n y x e

  -- an element of a list with one more is one of the list, or the last
  pub get_push : (xs : List X) (y : X) (i : ℕ) (x : X) → slice_get (xs ++ y ∷ []) i ≡ Some x → (slice_get xs i ≡ Some x) ⊎ ((i ≡ length xs) × (x ≡ y))
  get_push [] y zero x e = inr (refl, cc)
  get_push [] y (suc i) x e = cc
  get_push (z ∷ xs) y zero x e = inl e
  get_push (z ∷ xs) y (suc i) x e = go (get_push xs y i x e)
    where
      go : (slice_get xs i ≡ Some x) ⊎ ((i ≡ length xs) × (x ≡ y)) → (slice_get (z ∷ xs) (suc i) ≡ Some x) ⊎ ((suc i ≡ length (z ∷ xs)) × (x ≡ y))
      go (inl h) = inl h
      go (inr h) = inr (ap suc h.0, h.1)

  pub get_last : (xs : List X) (y : X) → slice_get (xs ++ y ∷ []) (length xs) ≡ Some y
  get_last [] y = refl
  get_last (x ∷ xs) y = get_last xs y

  pub get_some : (xs : List X) (i : ℕ) → i < length xs → (x : X) × (slice_get xs i ≡ Some x)
  get_some [] i l = absurd (omega arith)
  get_some (x ∷ xs) zero l = (x, refl)
  get_some (x ∷ xs) (suc i) l = get_some xs i (omega arith)

  pub get_start : (xs ys : List X) (i : ℕ) (x : X) → i < length xs → slice_get (xs ++ ys) i ≡ Some x → slice_get xs i ≡ Some x
  get_start [] ys i x l e = absurd (omega arith)
  get_start (y ∷ xs) ys zero x l e = e
  get_start (y ∷ xs) ys (suc i) x l e = get_start xs ys i x (omega arith) e

  -- an element that was read
  pub read_at : (xs : List X) (i : ℕ) (x : X) → i < length xs → x ≡ get_or xs i x → slice_get xs i ≡ Some x
  read_at xs i x l e = slice_get-get_or xs i x l ∙ ap Some (sym e)

  -- what is found in a list
  pub contained : (xs : List X) (x : X) → Contains xs x → (i : ℕ) × (slice_get xs i ≡ Some x)
  contained xs x h = (h.0, slice_get-get_or xs h.0 x h.1 ∙ ap Some h.2)

  pub contains_at : (xs : List X) (i : ℕ) (x : X) → slice_get xs i ≡ Some x → Contains xs x
  contains_at xs i x e = (i, slice_get_within xs i x e, get_or_from_slice_get xs i x x e)

-- one list holds all numbers of its index
pub in_row : (rows : List (List ℕ)) (n x : ℕ) (row : List ℕ) → slice_get rows n ≡ Some row → Lists rows n x → (k : ℕ) × (slice_get row k ≡ Some x)
in_row rows n x row e h =
    let same : h.row ≡ row = same_Some _ _ (sym h.stands ∙ e) in
    (h.place, subst (λ l. slice_get l h.place ≡ Some x) same h.is)
