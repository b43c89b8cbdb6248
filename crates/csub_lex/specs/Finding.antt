-- How the next piece of a source is found, one step after another. The functions below `lex` are held to these words; the clauses of
-- `lex` cite Pieces and Tokens alone, and the proofs show that both say the same.
use Rattle.std.specs.Prelude.{ℕ, ◌≡◌, ◌≤◌, ◌||◌, ◌&&◌, ◌==◌, if◌then◌else◌, nat_le, nat_eq, is_some, Bool, true, false}
use Rattle.std.specs.Prelude.{List, [], ◌∷◌, length, take, drop, codes, Option, Some, None}
use Rattle.std.specs.Char.{is_ascii_digit}
use Rattle.std.specs.List.{prefix_len, starts_with}
use Rattle.std.specs.Cmp.Lexicographic.{pointwise}
use Rattle.csub_lex.specs.declared.token.Key.{Key}
use Rattle.csub_lex.specs.declared.token.Mark.{Mark}
use Rattle.csub_lex.specs.declared.key.TheConstants.{KEYS}
use Rattle.csub_lex.specs.declared.mark.TheConstants.{MARKS}
use Rattle.csub_lex.specs.declared.token.TokenKind.{TokenKind}
use Rattle.csub_lex.specs.declared.token.TokenKind.TheVariants as kinds
use Rattle.csub_lex.specs.declared.error.LexKind.{LexKind}
use Rattle.csub_lex.specs.declared.error.LexKind.TheVariants as faults
use Rattle.csub_lex.specs.declared.step.Step.{Step}
use Rattle.csub_lex.specs.declared.step.Step.TheVariants as steps
use Rattle.csub_lex.specs.Bytes.{is_blank, is_gap, is_letter, is_word, no_newline}
use Rattle.csub_lex.specs.Words.{key_text}
use Rattle.csub_lex.specs.Marks.{mark_text}
use Rattle.csub_lex.specs.Numbers.{is_digit_of, value_in, is_suffix}
use Rattle.csub_lex.specs.Quoted.{is_plain, escape_value}
use Rattle.csub_lex.specs.Lines.{blank_line}

-- the next piece and the bytes behind it, or why there is none
pub data Cut : Type 0 where
  skipped : List ℕ → Cut
  took : TokenKind → List ℕ → Cut
  stuck : LexKind → Cut

abbrev pub begins : (ℕ → Bool) → List ℕ → Bool
begins class [] = false
begins class (b ∷ bs) = class b

-- the bytes behind the front that is of the class
unfoldable pub behind : (ℕ → Bool) → List ℕ → List ℕ
behind class bytes = drop (prefix_len class bytes) bytes

unfoldable pub strip : List ℕ → List ℕ → Option (List ℕ)
strip front bytes = if pointwise nat_eq (take (length front) bytes) front then Some (drop (length front) bytes) else None

-- words

abbrev pub key_among : List Key → List ℕ → Option Key
key_among [] text = None
key_among (key ∷ more) text = if pointwise nat_eq text (key_text key) then Some key else key_among more text

unfoldable pub key_of : List ℕ → Option Key
key_of text = key_among KEYS text

abbrev pub word_kind : Option Key → List ℕ → TokenKind
word_kind None text = kinds.Name text
word_kind (Some key) text = kinds.Key key

unfoldable pub word_cut : List ℕ → Cut
word_cut bytes =
    let n = prefix_len is_word bytes in
    took (word_kind (key_of (take n bytes)) (take n bytes)) (drop n bytes)

-- numbers

abbrev pub suffix_of : List ℕ → Option Bool
suffix_of [] = Some false
suffix_of (u ∷ []) = if is_suffix u then Some true else None
suffix_of (u ∷ v ∷ more) = None

abbrev pub with_suffix : ℕ → Option Bool → Option (ℕ × Bool)
with_suffix value None = None
with_suffix value (Some unsigned) = if nat_le value 4294967295 then Some (value, unsigned) else None

unfoldable pub number_in : ℕ → List ℕ → Option (ℕ × Bool)
number_in base text =
    let n = prefix_len (is_digit_of base) text in
    with_suffix (value_in base (take n text)) (suffix_of (drop n text))

abbrev pub decimal : Option (ℕ × Bool) → Option (ℕ × Bool)
decimal None = None
decimal (Some x) = if x.1 || nat_le x.0 2147483647 then Some x else None

-- `0x` or `0X` and a hexadecimal digit
abbrev pub is_hexadecimal : List ℕ → Bool
is_hexadecimal [] = false
is_hexadecimal (a ∷ []) = false
is_hexadecimal (a ∷ x ∷ []) = false
is_hexadecimal (a ∷ x ∷ d ∷ more) = a == 48 && (x == 120 || x == 88) && is_digit_of 16 d

unfoldable pub number_of : List ℕ → Option (ℕ × Bool)
number_of text =
    if is_hexadecimal text then number_in 16 (drop 2 text) else (
    if begins (λ b. b == 48) text then number_in 8 (drop 1 text) else decimal (number_in 10 text))

abbrev pub numbered : Option (ℕ × Bool) → List ℕ → Cut
numbered None after = stuck faults.Number
numbered (Some x) after = took (kinds.Number x.0 x.1) after

unfoldable pub number_cut : List ℕ → Cut
number_cut bytes = let n = prefix_len is_word bytes in numbered (number_of (take n bytes)) (drop n bytes)

-- between quotes

-- what the byte e and those behind it stand for, behind a `\`
unfoldable pub escaped : ℕ → List ℕ → Option ℕ
escaped e after = if e == 48 && begins (is_digit_of 8) after then None else escape_value e

abbrev pub with_rest : List ℕ → Option ℕ → Option (ℕ × List ℕ)
with_rest after None = None
with_rest after (Some value) = Some (value, after)

-- the first character, and the bytes behind it
unfoldable pub character_of : ℕ → List ℕ → Option (ℕ × List ℕ)
character_of quote [] = None
character_of quote (b ∷ []) = if is_plain quote b then Some (b, []) else None
character_of quote (b ∷ e ∷ more) =
    if b == 92 then with_rest more (escaped e more) else (
    if is_plain quote b then Some (b, e ∷ more) else None)

abbrev pub with_front : Option ℕ → Option (List ℕ × List ℕ) → Option (List ℕ × List ℕ)
with_front None read = None
with_front (Some value) None = None
with_front (Some value) (Some x) = Some (value ∷ x.0, x.1)

-- the characters up to the quote, and the bytes behind it
unfoldable pub characters_of : ℕ → List ℕ → Option (List ℕ × List ℕ)
characters_of quote [] = None
characters_of quote (b ∷ []) = if b == quote then Some ([], []) else None
characters_of quote (b ∷ e ∷ more) =
    if b == quote then Some ([], e ∷ more) else (
    if b == 92 then with_front (escaped e more) (characters_of quote more) else (
    if is_plain quote b then with_front (Some b) (characters_of quote (e ∷ more)) else None))

abbrev pub constant : Option (ℕ × List ℕ) → Cut
constant None = stuck faults.Byte
constant (Some x) = if begins (λ b. b == 39) x.1 then took (kinds.Char x.0) (drop 1 x.1) else stuck faults.Byte

abbrev pub text_cut : Option (List ℕ × List ℕ) → Cut
text_cut None = stuck faults.Byte
text_cut (Some x) = took (kinds.Text x.0) x.1

-- comments and include lines

-- the bytes behind the first `*/`
unfoldable pub behind_close : List ℕ → Option (List ℕ)
behind_close [] = None
behind_close (a ∷ []) = None
behind_close (a ∷ b ∷ more) = if a == 42 && b == 47 then Some more else behind_close (b ∷ more)

abbrev pub skip_to : LexKind → Option (List ℕ) → Cut
skip_to kind None = stuck kind
skip_to kind (Some after) = skipped after

-- a comment is opened by `/` and the byte c
abbrev pub opens : ℕ → List ℕ → Bool
opens c [] = false
opens c (a ∷ []) = false
opens c (a ∷ b ∷ more) = a == 47 && b == c

unfoldable pub ends_include : List ℕ → Bool
ends_include [] = true
ends_include (b ∷ more) = b == 10 || (opens 47 (b ∷ more) || (opens 42 (b ∷ more) && is_some (behind_close (drop 1 more))))

abbrev pub or_else : Option (List ℕ) → Option (List ℕ) → Option (List ℕ)
or_else None other = other
or_else (Some x) other = Some x

unfoldable pub behind_header : List ℕ → Option (List ℕ)
behind_header bytes = or_else (strip (codes "<stdio.h>") bytes) (strip (codes "<stdlib.h>") bytes)

abbrev pub header_line : Option (List ℕ) → Option (List ℕ)
header_line None = None
header_line (Some after) = if ends_include (behind is_gap after) then Some (behind is_gap after) else None

abbrev pub include_line : Option (List ℕ) → Option (List ℕ)
include_line None = None
include_line (Some after) = header_line (behind_header (behind is_gap after))

-- the bytes behind an include line, of which the `#` is gone
unfoldable pub behind_include : List ℕ → Option (List ℕ)
behind_include bytes = include_line (strip (codes "include") (behind is_gap bytes))

unfoldable pub directive_cut : List ℕ → List ℕ → Cut
directive_cut before bytes = if blank_line before then skip_to faults.Directive (behind_include bytes) else stuck faults.Directive

-- marks

abbrev pub mark_among : List Mark → List ℕ → Option Mark
mark_among [] bytes = None
mark_among (mark ∷ more) bytes = if starts_with nat_eq bytes (mark_text mark) then Some mark else mark_among more bytes

unfoldable pub first_mark : List ℕ → Option Mark
first_mark bytes = mark_among MARKS bytes

abbrev pub marked : Option Mark → List ℕ → Cut
marked None bytes = stuck faults.Byte
marked (Some mark) bytes = took (kinds.Mark mark) (drop (length (mark_text mark)) bytes)

unfoldable pub comment_cut : List ℕ → Cut
comment_cut bytes = skip_to faults.Byte (behind_close (drop 2 bytes))

-- a mark, where it opens no comment
unfoldable pub mark_cut : List ℕ → Cut
mark_cut bytes =
    if opens 47 bytes then skipped (behind no_newline (drop 2 bytes)) else (
    if opens 42 bytes then comment_cut bytes else marked (first_mark bytes) bytes)

-- a constant, a string, an include line or a mark
unfoldable pub other_cut : List ℕ → List ℕ → Cut
other_cut before [] = stuck faults.Byte
other_cut before (b ∷ bs) =
    if b == 35 then directive_cut before bs else (
    if b == 39 then constant (character_of 39 bs) else (
    if b == 34 then text_cut (characters_of 34 bs) else mark_cut (b ∷ bs)))

-- the next piece of the bytes that stand behind `before`
unfoldable pub next : List ℕ → List ℕ → Cut
next before [] = stuck faults.Byte
next before (b ∷ bs) =
    if is_blank b then skipped bs else (
    if is_letter b then word_cut (b ∷ bs) else (
    if is_ascii_digit b then number_cut (b ∷ bs) else other_cut before (b ∷ bs)))

-- what a private function answers is this cut
abbrev pub Gives : List ℕ → Step → Cut → Type 0
Gives bytes (steps.Skip n) cut = (n ≤ length bytes) × (cut ≡ skipped (drop n bytes))
Gives bytes (steps.Token kind n) cut = (n ≤ length bytes) × (cut ≡ took kind (drop n bytes))
Gives bytes (steps.Stuck kind) cut = cut ≡ stuck kind
