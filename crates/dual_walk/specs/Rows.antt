-- Lists of numbers by points.
use Rattle.std.specs.Prelude.{ℕ, ◌≡◌, List, length, slice_get, sum_by, Some}

-- the number stands in the list at n
pub record Lists (rows : List (List ℕ)) (n x : ℕ) : Type 0 where
  pub row : List ℕ
  pub stands : slice_get rows n ≡ Some row
  pub place : ℕ
  pub is : slice_get row place ≡ Some x

-- how many numbers stand in all lists
abbrev pub count_all : List (List ℕ) → ℕ
count_all rows = sum_by (λ row. length row) rows
