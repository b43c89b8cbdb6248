-- A set of pairs of numbers as bits, row by row.
use Rattle.std.specs.Prelude.{◌≡◌, ◌<◌, ◌+◌, ◌*◌, ◌/◌, ◌%◌, ℕ, List, slice_index}
use Rattle.std.specs.Int.{bit_at}

-- the bit at a place of a list of 64-bit words
abbrev pub bit_of : List ℕ → ℕ → ℕ
bit_of words place = bit_at (slice_index words (place / 64)) (place % 64)

-- the pair is in the set whose rows have this width
pub record IsIn (width : ℕ) (words : List ℕ) (n n' : ℕ) : Type 0 where
  pub row : n' < width
  pub bit : bit_of words (n * width + n') ≡ 1
