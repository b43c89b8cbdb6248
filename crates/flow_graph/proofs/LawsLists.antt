-- Lists read by place.
use Rattle.std.proofs.Common.{Bool, true, false, cond, get_or, drop, ⊎_elim, ◌≡◌, List, [], ◌∷◌, ◌++◌, ◌∙◌, zero, suc, arith, map, refl, ap, sym, ℕ, ◌+◌, ◌<◌, length, Option, Some, None, ◌⊎◌, inl, inr}
use Rattle.std.specs.List.{slice_get, range_with_len, find}
use Rattle.std.specs.Option.{option_map}
use Rattle.std.proofs.lemmas.Option.{same_Some}

-- an element of the first of two lists, and of the second
pub slice_get-left : {A : Type 0} (xs ys : List A) (k : ℕ) (x : A) → slice_get xs k ≡ Some x → slice_get (xs ++ ys) k ≡ Some x
slice_get-left [] ys k x e = absurd cc
slice_get-left (y ∷ xs) ys zero x e = e
slice_get-left (y ∷ xs) ys (suc k) x e = slice_get-left xs ys k x e

pub slice_get-right : {A : Type 0} (xs ys : List A) (n k j : ℕ) → length xs ≡ n → n + k ≡ j → slice_get (xs ++ ys) j ≡ slice_get ys k
slice_get-right [] ys n k j e g = let same : j ≡ k = omega arith in ap (slice_get ys) same
slice_get-right (x ∷ xs) ys n k zero e g = absurd (omega arith)
slice_get-right (x ∷ xs) ys n k (suc j) e g = slice_get-right xs ys (length xs) k j refl (omega arith)

-- an element of two lists, one behind the other, stands in the one or in the other
pub slice_get_cases_append : {A : Type 0} (xs ys : List A) (n : ℕ) (x : A) → slice_get (xs ++ ys) n ≡ Some x → (slice_get xs n ≡ Some x) ⊎ ((k : ℕ) × (n ≡ length xs + k) × (slice_get ys k ≡ Some x))
slice_get_cases_append [] ys n x e = inr (n, omega arith, e)
slice_get_cases_append (y ∷ xs) ys zero x e = inl e
slice_get_cases_append (y ∷ xs) ys (suc n) x e =
    ⊎_elim (λ h. inl h) (λ h. inr (h.0, omega (arith, h.1), h.2)) (slice_get_cases_append xs ys n x e)

-- a search that ends at a place
pub find_here : {A : Type 0} (p : A → Bool) (xs : List A) (i : ℕ) (x : A) → i < length xs → p (get_or xs i x) ≡ true → find p (drop i xs) ≡ slice_get xs i
find_here p [] i x h t = absurd (omega arith)
find_here p (y ∷ xs) zero x h t = ap (λ b. cond b (Some y) (find p xs)) t
find_here p (y ∷ xs) (suc i) x h t = find_here p xs i x (omega arith) t

-- a search in a list that is made of another
pub find-map : {A : Type 0} {B : Type 0} (h : A → B) (p : B → Bool) (xs : List A) → find p (map h xs) ≡ option_map h (find (λ x. p (h x)) xs)
find-map h p [] = refl
find-map h p (x ∷ xs) = by (p (h x)) (find-map h p xs)
  where
    by : (b : Bool) → find p (map h xs) ≡ option_map h (find (λ x. p (h x)) xs) → cond b (Some (h x)) (find p (map h xs)) ≡ option_map h (cond b (Some x) (find (λ x. p (h x)) xs))
    by true e = refl
    by false e = e

-- what a value that is made of another is made of
pub record Made {A : Type 0} {B : Type 0} (f : A → B) (o : Option A) (y : B) : Type 0 where
  pub value : A
  pub is : o ≡ Some value
  pub gives : f value ≡ y

-- where there is a value that is made, there is what it is made of
pub made_of : {A : Type 0} {B : Type 0} (f : A → B) (o : Option A) (y : B) → option_map f o ≡ Some y → Made f o y
made_of f None y e = absurd cc
made_of f (Some x) y e = record { value = x; is = refl; gives = same_Some (f x) y e }

-- a range in two pieces
pub range-plus : (a m n : ℕ) → range_with_len a (m + n) ≡ range_with_len a m ++ range_with_len (a + m) n
range-plus a zero n =
    let e : zero + n ≡ n = omega arith in
    let g : a ≡ a + zero = omega arith in
    ap (range_with_len a) e ∙ ap (λ k. range_with_len k n) g
range-plus a (suc m) n =
    let e : suc m + n ≡ suc (m + n) = omega arith in
    let g : a + 1 + m ≡ a + suc m = omega arith in
    ap (range_with_len a) e ∙ ap (λ l. a ∷ l) (range-plus (a + 1) m n) ∙ ap (λ k. a ∷ (range_with_len (a + 1) m ++ range_with_len k n)) g

abbrev pub head_or : {A : Type 0} → A → List A → A
head_or d [] = d
head_or d (x ∷ xs) = x

abbrev pub rest_of : {A : Type 0} → List A → List A
rest_of [] = []
rest_of (x ∷ xs) = xs

-- the number at a place of numbers that rise by one
pub range_at : {A : Type 0} (f : A → ℕ) (xs : List A) (a c k : ℕ) (x : A) → map f xs ≡ range_with_len a c → slice_get xs k ≡ Some x → f x ≡ a + k
range_at f [] a c k x h e = absurd cc
range_at f (y ∷ xs) a zero k x h e = absurd cc
range_at f (y ∷ xs) a (suc c) zero x h e =
    let same = same_Some y x e in
    ap f (sym same) ∙ ap (head_or 0) h ∙ omega arith
range_at f (y ∷ xs) a (suc c) (suc k) x h e = range_at f xs (a + 1) c k x (ap rest_of h) e ∙ omega arith
