-- The first name that stands twice, found by a set of the names so far.
use Rattle.std.proofs.Common.{◌≡◌, ◌≢◌, ◌<◌, ◌+◌, ℕ, Bool, true, false, not, cond, ◌||◌, zero, suc, add-one, option_map, List, [], ◌∷◌, ◌++◌, length, map, take, get_or, Some, refl, sym, ap, ◌∙◌, inl, inr, ◌⊎◌, arith}
use Rattle.std.specs.List.{AllPairs, Contains, list_any, slice_get}
use Rattle.std.specs.Str.{bytes_eq}
use Rattle.std.proofs.lemmas.List.{map-append, take_more, get_or_default}
use Rattle.std.proofs.lemmas.List.Quantifiers.{all_pairs_push}
use Rattle.std.proofs.lemmas.Option.{slice_get-map, slice_get_read, slice_get_within, get_or_from_slice_get}
use Rattle.std.proofs.lemmas.Slice.Eq.{bytes_eq-Decides}
use Rattle.test_suite.specs.Tests.{TestParts}
use Rattle.test_suite.specs.Suites.{names_of}
use Rattle.test_suite.specs.Causes.{IsFirstRepeat}

Contains-cons : (name other : List ℕ) (names : List (List ℕ)) → Contains names name → Contains (other ∷ names) name
Contains-cons name other names has = (has.0 + 1, omega (arith, has.1), rw add-one has.2)

contains_cases : (name other : List ℕ) (names : List (List ℕ)) → Contains (other ∷ names) name → (other ≡ name) ⊎ Contains names name
contains_cases name other names has = at has.0 has.1 has.2
  where
    at : (k : ℕ) → k < length (other ∷ names) → get_or (other ∷ names) k name ≡ name → (other ≡ name) ⊎ Contains names name
    at zero within is = inl is
    at (suc k) within is = inr (k, omega arith, is)

or_parts : (a b : Bool) → (a || b) ≡ false → (a ≡ false) × (b ≡ false)
or_parts true b h = cc h
or_parts false b h = (refl, h)

or_cases : (a b : Bool) → (a || b) ≡ true → (a ≡ true) ⊎ (b ≡ true)
or_cases true b h = inl refl
or_cases false b h = inr h

-- a name that the set has
found_in : {X : Type 0} (now : X → List ℕ) (keys : List X) (name : List ℕ) → list_any (λ key. bytes_eq name (now key)) keys ≡ true → Contains (map now keys) name
found_in now [] name has = cc has
found_in now (key ∷ keys) name has = elim (or_cases (bytes_eq name (now key)) (list_any (λ k. bytes_eq name (now k)) keys) has) [
  | inl here ↦ (0, omega arith, sym ((bytes_eq-Decides name (now key)).0 here))
  | inr later ↦ Contains-cons name (now key) (map now keys) (found_in now keys name later)
]

-- a name that the set lacks
lacks_name : {X : Type 0} (now : X → List ℕ) (keys : List X) (name : List ℕ) → list_any (λ key. bytes_eq name (now key)) keys ≡ false → ¬ Contains (map now keys) name
lacks_name now [] name lacks has = omega (arith, has.1)
lacks_name now (key ∷ keys) name lacks has =
    let parts = or_parts (bytes_eq name (now key)) (list_any (λ k. bytes_eq name (now k)) keys) lacks in
    elim (contains_cases name (now key) (map now keys) has) [
      | inl here ↦ cc ((bytes_eq-Decides name (now key)).1 (sym here), parts.0)
      | inr later ↦ lacks_name now keys name parts.1 later
    ]

-- the name of a test at its place
pub name_here : (tests : List TestParts) (place : ℕ) (test : TestParts) (name : List ℕ) → place < length tests → test ≡ get_or tests place test → name ≡ test.name → slice_get (names_of tests) place ≡ Some name
name_here tests place test name within is same =
    slice_get-map (λ t. t.name) tests place ∙ ap (option_map (λ (t : TestParts). t.name)) (slice_get_read tests (length tests) place test refl within is) ∙ ap Some (sym same)

-- the set has the name: it is the first repeat
pub repeats : {X : Type 0} (now : X → List ℕ) (keys : List X) (names : List (List ℕ)) (place : ℕ) (name : List ℕ) → map now keys ≡ take place names → AllPairs (λ one other. one ≢ other) (take place names)
    → slice_get names place ≡ Some name → list_any (λ key. bytes_eq name (now key)) keys ≡ true → IsFirstRepeat names place
repeats now keys names place name same apart here has = record {
  name = name;
  here = here;
  before = rw (← same) (found_in now keys name has);
  apart = apart;
}

-- the set lacks it: one more name that differs from all before
pub more_names : {X : Type 0} (now : X → List ℕ) (keys new : List X) (key : X) (names : List (List ℕ)) (place : ℕ) (name : List ℕ) → map now keys ≡ take place names → AllPairs (λ one other. one ≢ other) (take place names)
    → slice_get names place ≡ Some name → now key ≡ name → list_any (λ k. bytes_eq name (now k)) keys ≡ false → new ≡ keys ++ key ∷ []
    → (map now new ≡ take (place + 1) names) × AllPairs (λ one other. one ≢ other) (take (place + 1) names)
more_names now keys new key names place name same apart here is lacks grown =
    let within : place < length names = slice_get_within names place name here in
    let at : get_or names place name ≡ name = get_or_from_slice_get names place name name here in
    let more : take (place + 1) names ≡ take place names ++ name ∷ [] = take_more names place name within ∙ ap (λ last. take place names ++ last ∷ []) at in
    let pushed : map now new ≡ take place names ++ name ∷ [] = ap (map now) grown ∙ map-append now keys (key ∷ []) ∙ ap (λ front. front ++ now key ∷ []) same ∙ ap (λ last. take place names ++ last ∷ []) is in
    let fresh : ¬ Contains (take place names) name = rw (← same) (lacks_name now keys name lacks) in (
      pushed ∙ sym more,
      rw more (all_pairs_push (λ one other. one ≢ other) (take place names) name apart (λ k d below equal. fresh (k, below, get_or_default (take place names) k name d below ∙ equal))),
    )

-- what the set's answer says
pub not_new : (added has : Bool) → added ≡ not has → added ≡ false → has ≡ true
not_new added true is old = refl
not_new added false is old = cc (sym is ∙ old)

pub was_new : (added has : Bool) → added ≡ not has → added ≡ true → has ≡ false
was_new added false is new = refl
was_new added true is new = cc (sym is ∙ new)

pub grown_by : {X : Type 0} (has : Bool) (keys new : List X) (key : X) → new ≡ cond has keys (keys ++ key ∷ []) → has ≡ false → new ≡ keys ++ key ∷ []
grown_by true keys new key is lacks = cc lacks
grown_by false keys new key is lacks = is
