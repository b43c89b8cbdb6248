-- Comments, and the lines that include a header.
use Rattle.std.specs.Prelude.{ℕ, ◌||◌, ◌&&◌, ◌==◌, ◌≡◌, List, [], ◌∷◌, ◌++◌, Bool, true, codes}
use Rattle.std.specs.List.{fold}
use Rattle.csub_lex.specs.Bytes.{Stops, is_space_or_tab}

-- no `*` is followed by `/`
abbrev pub NoClose : List ℕ → Type 0
NoClose [] = Unit {0}
NoClose (b ∷ bs) = (b ≡ 42 → Stops (λ c. c == 47) bs) × NoClose bs

-- on the line that these bytes lead to, only spaces and tabs stand so far
abbrev pub blank_line : List ℕ → Bool
blank_line before = fold (λ blank b. b == 10 || (blank && is_space_or_tab b)) true before

-- the headers that may be included (C11 7.21, 7.22)
pub data Header : List ℕ → Type 0 where
  stdio : Header (codes "<stdio.h>")
  stdlib : Header (codes "<stdlib.h>")

-- an include line ends in front of these bytes: the end of the source, a newline, or a comment that is closed
pub data EndsInclude : List ℕ → Type 0 where
  the_end : EndsInclude []
  newline : (more : List ℕ) → EndsInclude (10 ∷ more)
  line_comment : (more : List ℕ) → EndsInclude (47 ∷ 47 ∷ more)
  comment : (body more : List ℕ) → EndsInclude (47 ∷ 42 ∷ (body ++ 42 ∷ 47 ∷ more))
