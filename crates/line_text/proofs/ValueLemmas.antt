-- The first line of a text, cut into a word and a value.
use Rattle.std.proofs.Common.{◌≡◌, ◌≢◌, ℕ, Bool, true, List, ◌∷◌, ◌++◌, refl, ap, ◌∙◌}
use Rattle.line_text.specs.Lines.{TextLine, lines_of, line_with, HasLine}
use Rattle.line_text.specs.Values.{value_line}
use Rattle.line_text.proofs.LawsOfValues.{first_line}

-- a text whose first line does not begin with the word has no such line
pub no_prefix : (text line : List ℕ) (is_ended : Bool) (more : List TextLine) (word value : List ℕ) → lines_of text ≡ line_with line is_ended ∷ more
    → ((rest : List ℕ) → line ≢ word ++ rest) → HasLine text 1 (value_line word value) → ⊥
no_prefix text line is_ended more word value lines none has =
    none (32 ∷ value) (ap (λ (l : TextLine). l.bytes) (first_line text (line_with line is_ended) more (value_line word value) lines has))

pub value_cut : (text line after bytes rest : List ℕ) (word : List ℕ) → text ≡ line ++ 10 ∷ rest → line ≡ word ++ after → after ≡ 32 ∷ bytes → text ≡ value_line word bytes ++ 10 ∷ rest
value_cut text line after bytes rest word cut is space = cut ∙ ap (λ front. front ++ 10 ∷ rest) (is ∙ ap (λ back. word ++ back) space)

pub value_here : (text line after bytes rest : List ℕ) (is_ended : Bool) (word : List ℕ) → lines_of text ≡ line_with line is_ended ∷ lines_of rest → is_ended ≡ true → line ≡ word ++ after → after ≡ 32 ∷ bytes
    → HasLine text 1 (value_line word bytes)
value_here text line after bytes rest is_ended word lines ended is space =
    let whole : line ≡ word ++ 32 ∷ bytes = is ∙ ap (λ back. word ++ back) space in
    rw (lines, ended, whole) refl
