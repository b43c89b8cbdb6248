-- Laws of texts that are written and read line by line, for proofs above.
use Rattle.std.proofs.Common.{◌≡◌, ◌≢◌, ◌+◌, ◌-◌, ◌⊎◌, inl, inr, ℕ, zero, suc, eqb, true, false, Result, Ok, Err, None, List, [], ◌∷◌, ◌++◌, length, length-append, take, drop, subst, arith, refl, sym, ap, ◌∙◌, append-nil, append_assoc}
use Rattle.std.specs.List.{slice_get, slice_split, join_with_byte}
use Rattle.std.specs.Result.{IfOk, IfErr, IsErrAnd}
use Rattle.std.proofs.lemmas.List.{take_at}
use Rattle.std.proofs.lemmas.List.Splits.{join_with_byte-slice_split}
use Rattle.line_text.specs.Lines.{lines_of, lines_between, line_with, text_of_lines, HasLine, line_at}
use Rattle.line_text.proofs.CutLemmas.{not_zero}
use Rattle.line_text.proofs.Laws.{lines_of-ended}
use Rattle.line_text.proofs.LawsOfValues.{IsPlain}

-- a text after these lines were appended to it, each with its newline
abbrev pub with_lines : List ℕ → List (List ℕ) → List ℕ
with_lines text [] = text
with_lines text (line ∷ more) = with_lines ((text ++ line) ++ 10 ∷ []) more

pub with_lines-text_of_lines : (text : List ℕ) (lines : List (List ℕ)) → with_lines text lines ≡ text ++ text_of_lines lines
with_lines-text_of_lines text [] = sym (append-nil text)
with_lines-text_of_lines text (line ∷ more) =
    with_lines-text_of_lines ((text ++ line) ++ 10 ∷ []) more
    ∙ append_assoc (text ++ line) (10 ∷ []) (text_of_lines more)
    ∙ append_assoc text line (10 ∷ text_of_lines more)

-- one more line before others
pub lines_cons : (rest line left last : List ℕ) (more : List (List ℕ)) → rest ≡ line ++ 10 ∷ left → left ≡ text_of_lines more ++ last → rest ≡ text_of_lines (line ∷ more) ++ last
lines_cons rest line left last more cut is = cut ∙ ap (λ r. line ++ 10 ∷ r) is ∙ sym (append_assoc line (10 ∷ text_of_lines more) last)

pub lines_append : (lines others : List (List ℕ)) (left : List ℕ) → text_of_lines (lines ++ others) ++ left ≡ text_of_lines lines ++ (text_of_lines others ++ left)
lines_append [] others left = refl
lines_append (line ∷ lines) others left =
    append_assoc line (10 ∷ text_of_lines (lines ++ others)) left ∙ ap (λ rest. line ++ 10 ∷ rest) (lines_append lines others left)
    ∙ sym (append_assoc line (10 ∷ text_of_lines lines) (text_of_lines others ++ left))

-- two facts of one answer
pub both_ok : {X E : Type 0} (r : Result X E) {P Q S : X → Type 0} → IfOk r P → IfOk r Q → ((x : X) → P x → Q x → S x) → IfOk r S
both_ok (Ok x) p q join = join x p q
both_ok (Err e) p q join = tt

-- an error that was passed on
pub passed_err : {X E : Type 0} (r : Result X E) (P : E → Type 0) (error : E) → IsErrAnd r (λ e. e ≡ error) → P error → IfErr r P
passed_err (Ok x) P error was holds = tt
passed_err (Err e) P error was holds = subst P (sym was) holds

-- what stands before the rest of a text
pub front_is : (text front rest : List ℕ) → text ≡ front ++ rest → take (length text - length rest) text ≡ front
front_is text front rest is =
    let size : length text - length rest ≡ length front = omega (arith, ap length is, length-append front rest) in
    rw (size, is) (take_at front rest (length front) refl)

-- a text of three parts and what follows them
pub three_parts : (text one two three r1 r2 r3 : List ℕ) → text ≡ one ++ r1 → r1 ≡ two ++ r2 → r2 ≡ three ++ r3 → text ≡ (one ++ (two ++ three)) ++ r3
three_parts text one two three r1 r2 r3 cut1 cut2 cut3 =
    cut1 ∙ ap (λ r. one ++ r) (cut2 ∙ ap (λ r. two ++ r) cut3 ∙ sym (append_assoc two three r3)) ∙ sym (append_assoc one (two ++ three) r3)

-- ---- a text that is read line by line

-- what stands at a place is the first of the list from there on
slice_get-drop : {X : Type 0} (n : ℕ) (xs : List X) → slice_get (drop n xs) 0 ≡ slice_get xs n
slice_get-drop zero xs = refl
slice_get-drop (suc n) [] = refl
slice_get-drop (suc n) (x ∷ xs) = slice_get-drop n xs

-- the line after those that are read is the first of the rest
pub line_next : (text rest : List ℕ) (n : ℕ) → drop n (lines_of text) ≡ lines_of rest → line_at text (n + 1) ≡ line_at rest 1
line_next text rest n lines =
    let at : n + 1 - 1 ≡ n = omega arith in
    ap (slice_get (lines_of text)) at ∙ sym (slice_get-drop n (lines_of text)) ∙ ap (λ ls. slice_get ls 0) lines

-- a line that the text has there is the first of the rest
pub in_rest : (text rest : List ℕ) (n : ℕ) (line : List ℕ) → drop n (lines_of text) ≡ lines_of rest → HasLine text (n + 1) line → HasLine rest 1 line
in_rest text rest n line lines has = sym (line_next text rest n lines) ∙ has

-- a line that is cut off the rest is its first
pub lines_cut : (rest line left : List ℕ) → rest ≡ line ++ 10 ∷ left → IsPlain line → lines_of rest ≡ line_with line true ∷ lines_of left
lines_cut rest line left cut plain = ap lines_of cut ∙ lines_of-ended line left plain

-- and the text has it there
pub has_next : (text rest line left : List ℕ) (n : ℕ) → drop n (lines_of text) ≡ lines_of rest → rest ≡ line ++ 10 ∷ left → IsPlain line → HasLine text (n + 1) line
has_next text rest line left n lines cut plain = line_next text rest n lines ∙ ap (λ ls. slice_get ls 0) (lines_cut rest line left cut plain)

-- only no parts, or one empty part, make no line
no_parts : (parts : List (List ℕ)) → lines_between parts ≡ [] → (parts ≡ []) ⊎ (parts ≡ [] ∷ [])
no_parts [] none = inl refl
no_parts ([] ∷ []) none = inr refl
no_parts ((byte ∷ line) ∷ []) none =
    let some : eqb (length (byte ∷ line)) 0 ≡ false = not_zero (length (byte ∷ line)) (omega arith) in
    absurd (cc (rw some at none))
no_parts (line ∷ next ∷ more) none = absurd (cc none)

-- a text without lines is empty
no_lines : (text : List ℕ) → lines_of text ≡ [] → text ≡ []
no_lines text none =
    let whole : join_with_byte 10 (slice_split (λ byte. eqb byte 10) text) ≡ text = join_with_byte-slice_split 10 text in
    elim (no_parts (slice_split (λ byte. eqb byte 10) text) none) [
      | inl is ↦ sym whole ∙ ap (join_with_byte 10) is
      | inr is ↦ sym whole ∙ ap (join_with_byte 10) is
    ]

-- a text that is not empty has a first line
pub some_line : (text : List ℕ) → text ≢ [] → line_at text 1 ≢ None
some_line text some none = some (no_lines text (first_none (lines_of text) none))
  where
    first_none : {X : Type 0} (xs : List X) → slice_get xs 0 ≡ None → xs ≡ []
    first_none [] none = refl
    first_none (x ∷ xs) none = cc none
