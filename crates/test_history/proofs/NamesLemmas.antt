-- A set of names that is searched by its bytes.
use Rattle.std.proofs.Common.{◌≡◌, ◌<◌, ◌+◌, ℕ, Bool, true, false, not, cond, ◌||◌, suc, zero, add-one, List, [], ◌∷◌, ◌++◌, length, map, get_or, refl, sym, ap, ◌∙◌, inl, inr, ◌⊎◌, arith, MatchBool}
use Rattle.std.specs.List.{Contains, list_any}
use Rattle.std.specs.Str.{bytes_eq}
use Rattle.std.proofs.lemmas.List.{map-append}
use Rattle.std.proofs.lemmas.Slice.Eq.{bytes_eq-Decides}

or_parts : (a b : Bool) → (a || b) ≡ false → (a ≡ false) × (b ≡ false)
or_parts true b h = cc h
or_parts false b h = (refl, h)

or_cases : (a b : Bool) → (a || b) ≡ true → (a ≡ true) ⊎ (b ≡ true)
or_cases true b h = inl refl
or_cases false b h = inr h

contains_later : (name other : List ℕ) (names : List (List ℕ)) → Contains names name → Contains (other ∷ names) name
contains_later name other names has = (has.0 + 1, omega (arith, has.1), rw add-one has.2)

contains_cases : (name other : List ℕ) (names : List (List ℕ)) → Contains (other ∷ names) name → (other ≡ name) ⊎ Contains names name
contains_cases name other names has = at has.0 has.1 has.2
  where
    at : (k : ℕ) → k < length (other ∷ names) → get_or (other ∷ names) k name ≡ name → (other ≡ name) ⊎ Contains names name
    at zero within is = inl is
    at (suc k) within is = inr (k, omega arith, is)

-- a name that the set has
found_in : {X : Type 0} (now : X → List ℕ) (keys : List X) (name : List ℕ) → list_any (λ key. bytes_eq name (now key)) keys ≡ true → Contains (map now keys) name
found_in now [] name has = cc has
found_in now (key ∷ keys) name has = elim (or_cases (bytes_eq name (now key)) (list_any (λ k. bytes_eq name (now k)) keys) has) [
  | inl here ↦ (0, omega arith, sym ((bytes_eq-Decides name (now key)).0 here))
  | inr later ↦ contains_later name (now key) (map now keys) (found_in now keys name later)
]

-- a name that the set lacks
lacks_name : {X : Type 0} (now : X → List ℕ) (keys : List X) (name : List ℕ) → list_any (λ key. bytes_eq name (now key)) keys ≡ false → ¬ Contains (map now keys) name
lacks_name now [] name lacks has = omega (arith, has.1)
lacks_name now (key ∷ keys) name lacks has =
    let parts = or_parts (bytes_eq name (now key)) (list_any (λ k. bytes_eq name (now k)) keys) lacks in
    elim (contains_cases name (now key) (map now keys) has) [
      | inl here ↦ cc ((bytes_eq-Decides name (now key)).1 (sym here), parts.0)
      | inr later ↦ lacks_name now keys name parts.1 later
    ]

-- what an insertion of a name says
pub name_inserted : {X : Type 0} (now : X → List ℕ) (keys new : List X) (key : X) (name : List ℕ) (has added : Bool) → now key ≡ name → has ≡ list_any (λ k. bytes_eq name (now k)) keys
    → added ≡ not has → new ≡ cond has keys (keys ++ key ∷ [])
    → MatchBool added ((¬ Contains (map now keys) name) × (map now new ≡ map now keys ++ name ∷ [])) (Contains (map now keys) name)
name_inserted now keys new key name true added is found was grown = rw was (found_in now keys name (sym found))
name_inserted now keys new key name false added is found was grown =
    rw was (lacks_name now keys name (sym found), ap (map now) grown ∙ map-append now keys (key ∷ []) ∙ ap (λ last. map now keys ++ last ∷ []) is)
