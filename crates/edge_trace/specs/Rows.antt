-- Sets of numbers below a bound. A row has one truth value a number: its length is the bound.
use Rattle.std.specs.Prelude.{ℕ, ◌+◌, ◌*◌, ◌^◌, ◌<◌, Bool, false, IsTrue, not, ◌&&◌, ◌||◌, if◌then◌else◌}
use Rattle.std.specs.Prelude.{List, [], ◌∷◌, map, filter, length, count_by, sum_by, slice_index_or}
use Rattle.std.specs.List.{range_with_len}

-- whether the number is in the set; no number from the bound on is
abbrev pub has : List Bool → ℕ → Bool
has row edge = slice_index_or row edge false

-- the set of the numbers below a bound that pass a test
unfoldable pub below : ℕ → (ℕ → Bool) → List Bool
below bound test = map test (range_with_len 0 bound)

-- the numbers that are in the set, rising
abbrev pub numbers_of : List Bool → List ℕ
numbers_of row = filter (has row) (range_with_len 0 (length row))

-- how many numbers are in the set
abbrev pub size : List Bool → ℕ
size row = count_by (λ is_in. is_in) row

-- the numbers of either set
abbrev pub union : List Bool → List Bool → List Bool
union a b = below (length a) (λ edge. has a edge || has b edge)

-- the numbers of the first set that are not in the second
abbrev pub difference : List Bool → List Bool → List Bool
difference a b = below (length a) (λ edge. has a edge && not (has b edge))

-- the least number that is in both sets
pub record IsLeastCommon (a b : List Bool) (edge : ℕ) : Type 0 where
  pub first : IsTrue (has a edge)
  pub second : IsTrue (has b edge)
  pub least : (other : ℕ) → other < edge → IsTrue (has a other) → IsTrue (has b other) → ⊥

-- no number is in both sets
abbrev pub NoneCommon : List Bool → List Bool → Type 0
NoneCommon a b = (edge : ℕ) → IsTrue (has a edge) → IsTrue (has b edge) → ⊥

-- byte `at` of a row that is written as bytes: the sum of 2 ^ i over each i below 8 where
-- 8 * at + i is in the set
unfoldable pub byte_of : List Bool → ℕ → ℕ
byte_of row at =
    sum_by (λ i. if has row (8 * at + i) then 2 ^ i else 0) (0 ∷ 1 ∷ 2 ∷ 3 ∷ 4 ∷ 5 ∷ 6 ∷ 7 ∷ [])
