-- Lines of a word and a value.
use Rattle.std.specs.Prelude.{◌≡◌, ◌≤◌, ℕ, List, [], ◌∷◌, length}
use Rattle.std.specs.Fmt.{decimal}
use Rattle.hex.specs.Hex.{encode_lower, IsBytes}
use Rattle.line_text.specs.Bytes.{bytes_or_dash}
use Rattle.line_text.specs.Lines.{HasLine}
use Rattle.line_text.specs.Words.{line_of_words}

-- the line of one value: its word, and the value's
abbrev pub value_line : List ℕ → List ℕ → List ℕ
value_line word value = line_of_words (word ∷ value ∷ [])

-- the 32 bytes of a SHA-256 digest
pub record IsDigest (digest : List ℕ) : Type 0 where
  pub size : length digest ≡ 32
  pub bytes : IsBytes digest

-- line n is a word and a number up to a limit
abbrev pub HasNumber : List ℕ → ℕ → List ℕ → ℕ → ℕ → Type 0
HasNumber text n word most number = (number ≤ most) × HasLine text n (value_line word (decimal number))

-- line n is a word and some bytes, at most so many
abbrev pub HasBytes : List ℕ → ℕ → List ℕ → ℕ → Type 0
HasBytes text n word most = (bytes : List ℕ) × IsBytes bytes × (length bytes ≤ most) × HasLine text n (value_line word (bytes_or_dash bytes))

-- line n is a word and 64 digits
abbrev pub HasDigest : List ℕ → ℕ → List ℕ → Type 0
HasDigest text n word = (digest : List ℕ) × IsDigest digest × HasLine text n (value_line word (encode_lower digest))
