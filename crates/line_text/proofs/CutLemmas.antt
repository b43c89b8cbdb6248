-- A text that is cut at the first byte of one kind.
use Rattle.std.proofs.Common.{◌≡◌, ◌≢◌, ℕ, ◌+◌, ◌-◌, ◌<◌, ◌≤◌, eqb, true, false, List, [], ◌∷◌, ◌++◌, length, take, drop, get_or, Some, None, refl, ap, ◌∙◌, arith, length-take}
use Rattle.std.proofs.lemmas.Grind.{common_steps}
use Rattle.std.proofs.lemmas.List.Splits.{slice_split_none, slice_split_at, length-slice_split}
use Rattle.std.specs.List.{All, slice_split}
use Rattle.line_text.specs.Lines.{lines_of, lines_between, line_with}
use Rattle.memchr.specs.Find.{IsFirstByte, is_byte}

neq-eqb : (b c : ℕ) → b ≢ c → eqb b c ≡ false
neq-eqb b c h = grind arith

-- no byte of a list is c, as the test says it
pub lacks : (c : ℕ) (xs : List ℕ) → All (λ b. b ≢ c) xs → All (λ b. eqb b c ≡ false) xs
lacks c xs h = λ k d lt. neq-eqb (get_or xs k d) c (h k d lt)

-- nothing was found
pub none_found : (c : ℕ) (text : List ℕ) → IsFirstByte (is_byte c) text None → All (λ b. b ≢ c) text
none_found c text h = λ k d lt is. grind (arith, common_steps, h k)

pub split_none : (c : ℕ) (text : List ℕ) → All (λ b. b ≢ c) text → slice_split (λ b. eqb b c) text ≡ text ∷ []
split_none c text h = slice_split_none (λ b. eqb b c) text (lacks c text h)

-- the first such byte was found
pub found_lacks : (c place : ℕ) (text : List ℕ) → IsFirstByte (is_byte c) text (Some place) → All (λ b. b ≢ c) (take place text)
found_lacks c place text h = λ k d lt is. grind (arith, common_steps, h.0.before k)

pub found_cut : (c place : ℕ) (text : List ℕ) → IsFirstByte (is_byte c) text (Some place) → text ≡ take place text ++ c ∷ drop (place + 1) text
found_cut c place text h = grind (arith, common_steps)

pub split_found : (c place : ℕ) (text : List ℕ) → IsFirstByte (is_byte c) text (Some place)
    → slice_split (λ b. eqb b c) text ≡ take place text ∷ slice_split (λ b. eqb b c) (drop (place + 1) text)
split_found c place text h =
    ap (slice_split (λ b. eqb b c)) (found_cut c place text h)
    ∙ slice_split_at (λ b. eqb b c) (take place text) c (drop (place + 1) text) (lacks c (take place text) (found_lacks c place text h)) (grind arith)

-- what is left of a list from a place on
rest_of : (k : ℕ) (text : List ℕ) → k ≤ length text → take (length text - k) (drop k text) ≡ drop k text
rest_of k text h = grind (arith, common_steps)

-- what follows the byte that was found
pub rest_after : (c place : ℕ) (text : List ℕ) → IsFirstByte (is_byte c) text (Some place) → take (length text - (place + 1)) (drop (place + 1) text) ≡ drop (place + 1) text
rest_after c place text h = rest_of (place + 1) text (omega (arith, h.0.high))

-- nothing stands before the byte that was found first
pub split_first : (c place : ℕ) (text : List ℕ) → place ≡ 0 → IsFirstByte (is_byte c) text (Some place) → slice_split (λ b. eqb b c) text ≡ [] ∷ slice_split (λ b. eqb b c) (drop (place + 1) text)
split_first c place text none h =
    split_found c place text h ∙ ap (λ k. take k text ∷ slice_split (λ b. eqb b c) (drop (place + 1) text)) none

pub some_before : (c place : ℕ) (text : List ℕ) → place ≢ 0 → IsFirstByte (is_byte c) text (Some place) → take place text ≢ []
some_before c place text some h is = omega (arith, length-take {A = ℕ}, ap length is, h.0.high)

pub nothing_left : (text : List ℕ) → take (length text - length text) (drop (length text) text) ≡ []
nothing_left text = grind (arith, common_steps)

-- ---- lines

-- a number above 0 is not 0, as the test says it
pub not_zero : (n : ℕ) → 0 < n → eqb n 0 ≡ false
not_zero n h = grind arith

-- a text without a newline is one line
pub one_line : (text rest : List ℕ) → All (λ b. b ≢ 10) text → 0 < length text → rest ≡ [] → lines_of text ≡ line_with text false ∷ lines_of rest
one_line text rest lacks some none =
    ap lines_between (split_none 10 text lacks) ∙ rw (not_zero (length text) some, none) refl

ended_line : (line : List ℕ) (parts : List (List ℕ)) → 0 < length parts → lines_between (line ∷ parts) ≡ line_with line true ∷ lines_between parts
ended_line line [] some = absurd (omega arith)
ended_line line (next ∷ more) some = refl

some_parts : (text : List ℕ) → 0 < length (slice_split (λ b. eqb b 10) text)
some_parts text = omega (arith, length-slice_split (λ b. eqb b 10) text)

-- a line, its newline and the other lines
pub more_lines : (text line rest : List ℕ) → slice_split (λ b. eqb b 10) text ≡ line ∷ slice_split (λ b. eqb b 10) rest → lines_of text ≡ line_with line true ∷ lines_of rest
more_lines text line rest is = ap lines_between is ∙ ended_line line (slice_split (λ b. eqb b 10) rest) (some_parts rest)
