-- The lines of a text, each ended by one newline.
use Rattle.std.specs.Prelude.{◌≡◌, ◌==◌, ◌-◌, ◌++◌, ℕ, Bool, true, false, List, [], ◌∷◌, length, Option, Some, slice_get, if◌then◌else◌}
use Rattle.std.specs.List.{slice_split}

-- a line without its newline, and whether it has one
pub record TextLine : Type 0 where
  pub bytes : List ℕ
  pub is_ended : Bool

abbrev pub line_with : List ℕ → Bool → TextLine
line_with bytes is_ended = record { bytes = bytes; is_ended = is_ended }

-- the lines that stand between newlines
abbrev pub lines_between : List (List ℕ) → List TextLine
lines_between [] = []
lines_between (last ∷ []) = if length last == 0 then [] else line_with last false ∷ []
lines_between (line ∷ next ∷ more) = line_with line true ∷ lines_between (next ∷ more)

-- the lines of a text: a newline ends each, and what stands after the last newline is one more line if it is not empty
abbrev pub lines_of : List ℕ → List TextLine
lines_of text = lines_between (slice_split (λ byte. byte == 10) text)

-- the text made of these lines: a newline stands after each
abbrev pub text_of_lines : List (List ℕ) → List ℕ
text_of_lines [] = []
text_of_lines (line ∷ more) = line ++ 10 ∷ text_of_lines more

-- line n of a text, counted from 1, where it has one
abbrev pub line_at : List ℕ → ℕ → Option TextLine
line_at text n = slice_get (lines_of text) (n - 1)

-- line n is there, ended by its newline, and has these bytes
abbrev pub HasLine : List ℕ → ℕ → List ℕ → Type 0
HasLine text n line = line_at text n ≡ Some (line_with line true)
