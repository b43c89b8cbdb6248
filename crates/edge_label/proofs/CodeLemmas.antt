-- Sets of codes, seen as the list of what the codes stand for.
use Rattle.std.proofs.Common.{◌≡◌, ◌⊎◌, ◌<◌, ℕ, List, [], ◌∷◌, ◌++◌, Bool, true, false, cond, length, get_or, map, Option, Some, None, Vec, refl, sym, ap, subst, ◌∙◌, inl, inr, arith, option_map, slice_get, true≢false}
use Rattle.std.specs.declared.alloc.Global.{Global}
use Rattle.std.specs.Str.{bytes_eq}
use Rattle.std.specs.List.{IsDistinct, All}
use Rattle.std.proofs.lemmas.Bool.{cases_lt}
use Rattle.std.proofs.lemmas.Option.{slice_get-map, slice_get_within, get_or_from_slice_get}
use Rattle.std.proofs.lemmas.List.{map-append}
use Rattle.std.proofs.lemmas.List.Elements.{All-append, All-cons, All-nil, All-get_or}
use Rattle.std.proofs.lemmas.Slice.Eq.{bytes_eq-Decides}
use Rattle.std.proofs.lemmas.Map.Keys.{apart_from_distinct}

abbrev pub Keys : Type 0
Keys = List (Vec ℕ Global)

abbrev pub codes : Keys → List (List ℕ)
codes keys = map (λ code. code.items) keys

-- a set of codes with one more, unless it was there
abbrev pub Inserted : Bool → Keys → Keys → Vec ℕ Global → Type 0
Inserted there keys new value = new ≡ cond there keys (keys ++ value ∷ [])

abbrev pub Distinct : Keys → Type 0
Distinct keys = IsDistinct (λ x y. bytes_eq x.items y.items) keys

-- where an inserted code stands
abbrev pub StandsAt : Keys → ℕ → Vec ℕ Global → Type 0
StandsAt keys n value = (k : Vec ℕ Global) × (slice_get keys n ≡ Some k) × (bytes_eq value.items k.items ≡ true)

-- what is at a place of a mapped list
at_mapped : {X Y : Type 0} (f : X → Y) (o : Option X) (y : Y) → option_map f o ≡ Some y → (x : X) × (o ≡ Some x) × (f x ≡ y)
at_mapped f None y e = absurd cc
at_mapped f (Some x) y e = (x, refl, cc)

-- the key behind a code
key_at : (keys : Keys) (n : ℕ) (code : List ℕ) → slice_get (codes keys) n ≡ Some code → (k : Vec ℕ Global) × (slice_get keys n ≡ Some k) × (k.items ≡ code)
key_at keys n code at = at_mapped (λ v. v.items) (slice_get keys n) code (sym (slice_get-map (λ v. v.items) keys n) ∙ at)

-- no two places have one code
apart_codes : (keys : Keys) (i j : ℕ) (code : List ℕ) → Distinct keys → i < j → slice_get (codes keys) i ≡ Some code → slice_get (codes keys) j ≡ Some code → ⊥
apart_codes keys i j code distinct below at_i at_j =
    let ki = key_at keys i code at_i in
    let kj = key_at keys j code at_j in
    let within : j < length keys = slice_get_within keys j kj.0 kj.1 in
    let apart : bytes_eq (get_or keys i ki.0).items (get_or keys j ki.0).items ≡ false = apart_from_distinct (λ a b. bytes_eq a.items b.items) keys i j ki.0 distinct below within in
    let first : get_or keys i ki.0 ≡ ki.0 = get_or_from_slice_get keys i ki.0 ki.0 ki.1 in
    let second : get_or keys j ki.0 ≡ kj.0 = get_or_from_slice_get keys j kj.0 ki.0 kj.1 in
    let same : (get_or keys i ki.0).items ≡ (get_or keys j ki.0).items = ap (λ v. v.items) first ∙ ki.2 ∙ sym kj.2 ∙ ap (λ v. v.items) (sym second) in
    true≢false (sym ((bytes_eq-Decides _ _).1 same) ∙ apart)

-- a code has one place
pub one_place : (keys : Keys) → Distinct keys → (i j : ℕ) (code : List ℕ) → slice_get (codes keys) i ≡ Some code → slice_get (codes keys) j ≡ Some code → i ≡ j
one_place keys distinct i j code at_i at_j =
    elim (cases_lt i j) [
      | inl below ↦ absurd (apart_codes keys i j code distinct below at_i at_j)
      | inr not_below ↦ elim (cases_lt j i) [
        | inl above ↦ absurd (apart_codes keys j i code distinct above at_j at_i)
        | inr not_above ↦ omega arith
      ]
    ]

-- the place of an inserted code
pub code_place : (keys : Keys) (n : ℕ) (value : Vec ℕ Global) → StandsAt keys n value → slice_get (codes keys) n ≡ Some value.items
code_place keys n value stands =
    slice_get-map (λ v. v.items) keys n ∙ ap (option_map (λ v. v.items)) stands.1 ∙ ap Some (sym ((bytes_eq-Decides value.items stands.0.items).0 stands.2))

-- the codes, or these and one more
pub inserted_codes : (there : Bool) (keys new : Keys) (value : Vec ℕ Global) → Inserted there keys new value → (codes new ≡ codes keys) ⊎ (codes new ≡ codes keys ++ value.items ∷ [])
inserted_codes true keys new value e = inl (ap codes e)
inserted_codes false keys new value e = inr (ap codes e ∙ map-append (λ v. v.items) keys (value ∷ []))

-- each code of a list is its value's
abbrev pub AreWritten : {A : Type 0} → (A → List ℕ → Type 0) → (List ℕ → A) → List (List ℕ) → Type 0
AreWritten Is of lists = All (λ code. Is (of code) code) lists

-- codes of values: `Is` says which code is a value's, and `of` reads a code
module _ {A : Type 0} (Is : A → List ℕ → Type 0) (of : List ℕ → A)
    (reads : (x : A) (code : List ℕ) → Is x code → of code ≡ x) (alone : (x : A) (c d : List ℕ) → Is x c → Is x d → c ≡ d) where
  -- the code at a value's number
  code_at : (lists : List (List ℕ)) (n : ℕ) (x : A) → AreWritten Is of lists → slice_get (map of lists) n ≡ Some x → (code : List ℕ) × (slice_get lists n ≡ Some code) × Is x code
  code_at lists n x written at =
      let found = at_mapped of (slice_get lists n) x (sym (slice_get-map of lists n) ∙ at) in
      let within : n < length lists = slice_get_within lists n found.0 found.1 in
      let is : Is (of found.0) found.0 =
      subst (λ code. Is (of code) code) (get_or_from_slice_get lists n found.0 found.0 found.1) (All-get_or (λ code. Is (of code) code) lists n found.0 within written) in
      (found.0, found.1, subst (λ y. Is y found.0) found.2 is)

  -- a value has one number
  pub one_number : (keys : Keys) → Distinct keys → AreWritten Is of (codes keys) → (i j : ℕ) (x : A)
      → slice_get (map of (codes keys)) i ≡ Some x → slice_get (map of (codes keys)) j ≡ Some x → i ≡ j
  one_number keys distinct written i j x at_i at_j =
      let ci = code_at (codes keys) i x written at_i in
      let cj = code_at (codes keys) j x written at_j in
      one_place keys distinct i j ci.0 ci.1 (cj.1 ∙ ap Some (alone x cj.0 ci.0 cj.2 ci.2))

  push_written : (lists : List (List ℕ)) (code : List ℕ) (x : A) → AreWritten Is of lists → Is x code → AreWritten Is of (lists ++ code ∷ [])
  push_written lists code x written is =
      All-append (λ c. Is (of c) c) lists (code ∷ []) written
      (All-cons (λ c. Is (of c) c) code [] (subst (λ y. Is y code) (sym (reads x code is)) is) (All-nil (λ c. Is (of c) c)))

  -- what the insertion of a value's code leaves
  pub record IsInserted (keys new : Keys) (n : ℕ) (x : A) : Type 0 where
    pub written : AreWritten Is of (codes new)
    pub number : slice_get (map of (codes new)) n ≡ Some x
    pub adds_only : (map of (codes new) ≡ map of (codes keys)) ⊎ (map of (codes new) ≡ map of (codes keys) ++ x ∷ [])

  pub inserted : (there : Bool) (keys new : Keys) (n : ℕ) (value : Vec ℕ Global) (x : A) → AreWritten Is of (codes keys) → Inserted there keys new value
      → StandsAt new n value → Is x value.items → IsInserted keys new n x
  inserted there keys new n value x before e stands is =
      let number : slice_get (map of (codes new)) n ≡ Some x =
      slice_get-map of (codes new) n ∙ ap (option_map of) (code_place new n value stands) ∙ ap Some (reads x value.items is) in
      elim (inserted_codes there keys new value e) [
        | inl same ↦ record { written = subst (AreWritten Is of) (sym same) before; number = number; adds_only = inl (ap (map of) same) }
        | inr more ↦ record {
          written = subst (AreWritten Is of) (sym more) (push_written (codes keys) value.items x before is);
          number = number;
          adds_only = inr (ap (map of) more ∙ map-append of (codes keys) (value.items ∷ []) ∙ ap (λ y. map of (codes keys) ++ y ∷ []) (reads x value.items is));
        }
      ]
