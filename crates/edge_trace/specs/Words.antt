-- How a row is kept: number e is bit e % 64, from the lowest, of word e / 64.
use Rattle.std.specs.Prelude.{◌≡◌, ℕ, ◌+◌, ◌*◌, ◌/◌, ◌%◌, ◌^◌, ◌<◌, ◌≤◌, Bool, false, ◌==◌, List, length, slice_index}
use Rattle.std.specs.Int.{bit_at}
use Rattle.edge_trace.specs.Rows.{below}

-- whether the bit at a place of the words is set
abbrev pub bit_of : List ℕ → ℕ → Bool
bit_of words place = bit_at (slice_index words (place / 64)) (place % 64) == 1

-- the row that the words stand for
abbrev pub row_of : ℕ → List ℕ → List Bool
row_of edges words = below edges (bit_of words)

-- all bits of the words
abbrev pub bits_of : List ℕ → List Bool
bits_of words = row_of (64 * length words) words

-- there are just as many words as the bound takes, and no bit from the bound on is set
pub record IsKept (edges : ℕ) (words : List ℕ) : Type 0 where
  pub small : edges < 2 ^ 32
  pub enough : length words ≡ (edges + 63) / 64
  pub clear : (place : ℕ) → edges ≤ place → bit_of words place ≡ false
