-- The words of a line, separated by one space.
use Rattle.std.specs.Prelude.{◌≡◌, ◌≢◌, ◌==◌, ℕ, List, [], ◌∷◌, All}
use Rattle.std.specs.List.{slice_split, join_with_byte}

-- a word has one byte or more, and no space or newline among them
pub record IsWord (word : List ℕ) : Type 0 where
  pub nonempty : word ≢ []
  pub no_space : All (λ byte. byte ≢ 32) word
  pub no_newline : All (λ byte. byte ≢ 10) word

-- the line made of these words: one space stands between each and the next
abbrev pub line_of_words : List (List ℕ) → List ℕ
line_of_words words = join_with_byte 32 words

-- what stands between the spaces of a line, from its begin to its end; the empty line is one empty piece
abbrev pub pieces : List ℕ → List (List ℕ)
pieces line = slice_split (λ byte. byte == 32) line

-- these are the words of the line: its pieces, none of which is empty
abbrev pub AreWords : List ℕ → List (List ℕ) → Type 0
AreWords line words = (pieces line ≡ words) × All (λ word. word ≢ []) words

-- the first piece is empty: the line is empty or begins with a space
abbrev pub StartsWithNoWord : List ℕ → Type 0
StartsWithNoWord line = (more : List (List ℕ)) × (pieces line ≡ [] ∷ more)
