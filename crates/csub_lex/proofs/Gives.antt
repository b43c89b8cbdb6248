-- What a private function answers, from what it read.
use Rattle.std.proofs.Common.{◌≡◌, ℕ, ◌+◌, ◌-◌, ◌<◌, ◌≤◌, List, [], ◌∷◌, length, take, drop, take-append-drop, Option, Some, Bool, true, false, sym, ap, ◌∙◌, arith, length-append}
use Rattle.std.specs.Prelude.{◌==◌}
use Rattle.std.specs.List.{prefix_len}
use Rattle.std.proofs.lemmas.Bool.{cond-true, cond-false}
use Rattle.std.proofs.lemmas.List.{drop-drop}
use Rattle.csub_lex.specs.declared.token.Mark.{Mark}
use Rattle.csub_lex.specs.declared.token.TokenKind.TheVariants as kinds
use Rattle.csub_lex.specs.declared.error.LexKind.TheVariants as faults
use Rattle.csub_lex.specs.Bytes.{no_newline}
use Rattle.csub_lex.specs.Lines.{blank_line}
use Rattle.csub_lex.specs.Marks.{mark_text}
use Rattle.csub_lex.specs.Finding.{Cut, skipped, took, begins, behind, opens, behind_close, skip_to, comment_cut, behind_include, directive_cut, character_of, constant, characters_of, text_cut, first_mark, marked, mark_cut}
use Rattle.csub_lex.proofs.Choices.{Behind, behind_fits, behind_is, behind_more}
use Rattle.csub_lex.proofs.Tables.{mark_front}
use Rattle.csub_lex.proofs.QuotedLaws.{character_behind, characters_behind}
use Rattle.csub_lex.proofs.LineLaws.{close_behind, include_behind}

-- a length up to the bytes behind

pub up_to : (bytes after : List ℕ) (cut : List ℕ → Cut) (found : Cut) → Behind bytes after → found ≡ cut after
    → (length bytes - length after ≤ length bytes) × (found ≡ cut (drop (length bytes - length after) bytes))
up_to bytes after cut found h e = (omega arith, e ∙ ap (λ (x : List ℕ). cut x) (sym (behind_is bytes after h)))

-- comments

pub close_after : (bytes after : List ℕ) → behind_close (drop 2 bytes) ≡ Some after → Behind bytes after
close_after bytes after e = behind_more 2 bytes after (close_behind (drop 2 bytes) after e)

pub comment_is : (bytes after : List ℕ) → behind_close (drop 2 bytes) ≡ Some after → comment_cut bytes ≡ skipped after
unfolding comment_cut
comment_is bytes after e = ap (λ (o : Option (List ℕ)). skip_to faults.Byte o) e

pub line_after : (bytes : List ℕ) → Behind bytes (behind no_newline (drop 2 bytes))
unfolding behind
line_after bytes = behind_more 2 bytes (drop (prefix_len no_newline (drop 2 bytes)) (drop 2 bytes)) (take (prefix_len no_newline (drop 2 bytes)) (drop 2 bytes), sym (take-append-drop (prefix_len no_newline (drop 2 bytes)) (drop 2 bytes)))

pub line_is : (bytes : List ℕ) → opens 47 bytes ≡ true → mark_cut bytes ≡ skipped (behind no_newline (drop 2 bytes))
unfolding mark_cut
line_is bytes h = cond-true (opens 47 bytes) _ _ h

-- include lines

pub include_after : (bytes after : List ℕ) → behind_include (drop 1 bytes) ≡ Some after → Behind bytes after
include_after bytes after e = behind_more 1 bytes after (include_behind (drop 1 bytes) after e)

pub directive_is : (before bs after : List ℕ) → blank_line before ≡ true → behind_include bs ≡ Some after → directive_cut before bs ≡ skipped after
unfolding directive_cut
directive_is before bs after alone e = cond-true (blank_line before) _ _ alone ∙ ap (λ (o : Option (List ℕ)). skip_to faults.Directive o) e

-- constants and strings

pub character_after : (bytes : List ℕ) (value : ℕ) (after : List ℕ) → character_of 39 (drop 1 bytes) ≡ Some (value, after) → Behind bytes after
character_after bytes value after e = behind_more 1 bytes after (character_behind 39 (drop 1 bytes) value after e)

begins_some : (class : ℕ → Bool) (s : List ℕ) → begins class s ≡ true → 0 < length s
begins_some class [] h = absurd (cc h)
begins_some class (b ∷ bs) h = omega arith

pub constant_gives : (bytes : List ℕ) (value : ℕ) (after : List ℕ) → character_of 39 (drop 1 bytes) ≡ Some (value, after) → begins (λ b. b == 39) after ≡ true
    → (length bytes - length after + 1 ≤ length bytes) × (constant (character_of 39 (drop 1 bytes)) ≡ took (kinds.Char value) (drop (length bytes - length after + 1) bytes))
constant_gives bytes value after e closed =
    let h = character_after bytes value after e in
    let rest : drop 1 after ≡ drop (length bytes - length after + 1) bytes = ap (λ (x : List ℕ). drop 1 x) (sym (behind_is bytes after h)) ∙ drop-drop 1 (length bytes - length after) bytes in (
      omega (arith, behind_fits bytes after h, begins_some (λ b. b == 39) after closed),
      ap (λ (o : Option (ℕ × List ℕ)). constant o) e ∙ cond-true (begins (λ b. b == 39) after) _ _ closed ∙ ap (λ (x : List ℕ). took (kinds.Char value) x) rest,
    )

pub string_after : (bytes values after : List ℕ) → characters_of 34 (drop 1 bytes) ≡ Some (values, after) → Behind bytes after
string_after bytes values after e = behind_more 1 bytes after (characters_behind 34 (drop 1 bytes) values after e)

pub string_is : (bs values after : List ℕ) → characters_of 34 bs ≡ Some (values, after) → text_cut (characters_of 34 bs) ≡ took (kinds.Text values) after
string_is bs values after e = ap (λ (o : Option (List ℕ × List ℕ)). text_cut o) e

-- marks

pub mark_gives : (bytes : List ℕ) (mark : Mark) (n : ℕ) → first_mark bytes ≡ Some mark → n ≡ length (mark_text mark) → opens 47 bytes ≡ false → opens 42 bytes ≡ false
    → (n ≤ length bytes) × (mark_cut bytes ≡ took (kinds.Mark mark) (drop n bytes))
unfolding mark_cut
mark_gives bytes mark n e size p q = (
  omega (arith, size, ap length (mark_front bytes mark e), length-append (mark_text mark) (drop (length (mark_text mark)) bytes)),
  cond-false (opens 47 bytes) _ _ p ∙ cond-false (opens 42 bytes) _ _ q ∙ ap (λ (o : Option Mark). marked o bytes) e ∙ ap (λ (m : ℕ). took (kinds.Mark mark) (drop m bytes)) (sym size),
)
