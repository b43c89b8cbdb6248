-- Laws of words and lines, for proofs above: what is written is read back.
use Rattle.std.proofs.Common.{inl, inr, ◌≡◌, ◌≢◌, ℕ, ◌^◌, ◌<◌, ◌*◌, ◌/◌, ◌%◌, eqb, leb, Bool, true, false, ◌&&◌, lit<, List, [], ◌∷◌, ◌++◌, length, map, get_or, refl, ap, ◌∙◌, arith, append_assoc}
use Rattle.std.proofs.lemmas.Bool.{cases_lt}
use Rattle.std.proofs.lemmas.List.{get_or_past}
use Rattle.std.proofs.lemmas.List.Elements.{All-nil, All-cons, All-head, All-tail, All-weaker}
use Rattle.std.proofs.lemmas.List.Splits.{slice_split_at, join_with_byte-slice_split}
use Rattle.std.proofs.lemmas.Fmt.{decimal_nonempty, digits_decimal}
use Rattle.std.specs.Char.{is_ascii_digit}
use Rattle.std.specs.Fmt.{decimal}
use Rattle.std.specs.List.{All}
use Rattle.std.specs.Str.{all_ascii_digits}
use Rattle.hex.specs.Hex.{encode_lower, encode_with, lower_digits, decode_of, IsBytes}
use Rattle.hex.proofs.HexLemmas.{length-encode_with, decode_of-encode_lower, decode_of-same}
use Rattle.line_text.specs.Bytes.{bytes_or_dash}
use Rattle.line_text.specs.Lines.{lines_of, line_with, text_of_lines}
use Rattle.line_text.specs.Words.{IsWord, AreWords, line_of_words, pieces}
use Rattle.line_text.proofs.BytesLemmas.{bytes_or_dash-nonempty}
use Rattle.line_text.proofs.CutLemmas.{lacks, split_none, more_lines}
use Rattle.line_text.proofs.HexadecimalLemmas.{all_below-at}
use Rattle.line_text.proofs.LawsOfNumbers.{read_on-numerals}

-- ---- words

-- a line is made of its pieces
pub line_of_words-pieces : (line : List ℕ) → line_of_words (pieces line) ≡ line
line_of_words-pieces line = join_with_byte-slice_split 32 line

-- words without a space are the pieces of their line
pub pieces-line_of_words : (words : List (List ℕ)) → words ≢ [] → All (λ word. All (λ byte. byte ≢ 32) word) words → pieces (line_of_words words) ≡ words
pieces-line_of_words [] some h = absurd (some refl)
pieces-line_of_words (word ∷ []) some h = split_none 32 word (All-head (λ w. All (λ byte. byte ≢ 32) w) word [] h)
pieces-line_of_words (word ∷ next ∷ more) some h =
    let Plain : List ℕ → Type 0 = λ w. All (λ byte. byte ≢ 32) w in
    slice_split_at (λ b. eqb b 32) word 32 (line_of_words (next ∷ more)) (lacks 32 word (All-head Plain word (next ∷ more) h)) refl
    ∙ ap (λ rest. word ∷ rest) (pieces-line_of_words (next ∷ more) (λ e. cc e) (All-tail Plain word (next ∷ more) h))

-- words are the words of the line that is made of them
pub AreWords-line_of_words : (words : List (List ℕ)) → words ≢ [] → All IsWord words → AreWords (line_of_words words) words
AreWords-line_of_words words some h = (
  pieces-line_of_words words some (All-weaker IsWord (λ word. All (λ byte. byte ≢ 32) word) (λ word w. w.no_space) words h),
  All-weaker IsWord (λ word. word ≢ []) (λ word w. w.nonempty) words h,
)

-- ---- lines

-- a line with its newline, and more text
pub lines_of-ended : (line rest : List ℕ) → All (λ byte. byte ≢ 10) line → lines_of (line ++ 10 ∷ rest) ≡ line_with line true ∷ lines_of rest
lines_of-ended line rest h = more_lines (line ++ 10 ∷ rest) line rest (slice_split_at (λ b. eqb b 10) line 10 rest (lacks 10 line h) refl)

-- lines without a newline are the lines of their text
pub lines_of-text_of_lines : (lines : List (List ℕ)) (rest : List ℕ) → All (λ line. All (λ byte. byte ≢ 10) line) lines
    → lines_of (text_of_lines lines ++ rest) ≡ map (λ line. line_with line true) lines ++ lines_of rest
lines_of-text_of_lines [] rest h = refl
lines_of-text_of_lines (line ∷ more) rest h =
    let Plain : List ℕ → Type 0 = λ l. All (λ byte. byte ≢ 10) l in
    ap lines_of (append_assoc line (10 ∷ text_of_lines more) rest)
    ∙ lines_of-ended line (text_of_lines more ++ rest) (All-head Plain line more h)
    ∙ ap (λ ls. line_with line true ∷ ls) (lines_of-text_of_lines more rest (All-tail Plain line more h))

-- ---- numbers and bytes are words

and_both : (a b : Bool) → (a && b) ≡ true → (a ≡ true) × (b ≡ true)
and_both true b h = (refl, h)
and_both false b h = cc h

-- a digit is neither a space nor a newline
digit-not : (c byte : ℕ) → c < 48 → is_ascii_digit byte ≡ true → byte ≢ c
digit-not c byte small digit is = grind arith

digits-lack : (c : ℕ) (digits : List ℕ) → c < 48 → all_ascii_digits digits ≡ true → All (λ byte. byte ≢ c) digits
digits-lack c [] small h = All-nil (λ byte. byte ≢ c)
digits-lack c (d ∷ ds) small h =
    let parts = and_both (is_ascii_digit d) (all_ascii_digits ds) h in
    All-cons (λ byte. byte ≢ c) d ds (digit-not c d small parts.0) (digits-lack c ds small parts.1)

-- the decimal of a number of 64 bits is a word
pub IsWord-decimal : (n : ℕ) → n < 2 ^ 64 → IsWord (decimal n)
IsWord-decimal n small =
    let digits : all_ascii_digits (decimal n) ≡ true = digits_decimal read_on-numerals n small in
    record {
      nonempty = λ none. omega (arith, decimal_nonempty n small, ap length none);
      no_space = digits-lack 32 (decimal n) (lit< tt) digits;
      no_newline = digits-lack 10 (decimal n) (lit< tt) digits;
    }

-- a digit that is written is none of the bytes from 1 to 47
abbrev is_above : ℕ → Bool
is_above d = leb 48 (get_or lower_digits d 0)

lower_digit-not : (c d : ℕ) → 0 < c → c < 48 → get_or lower_digits d 0 ≢ c
lower_digit-not c d some small is = elim (cases_lt d 16) [
  | inl within ↦
      let above : leb 48 (get_or lower_digits d 0) ≡ true = all_below-at is_above 16 d refl within in
      grind arith
  | inr past ↦ omega (arith, get_or_past lower_digits d 0 past)
]

encode_lower-lack : (c : ℕ) (bytes : List ℕ) → 0 < c → c < 48 → All (λ byte. byte ≢ c) (encode_lower bytes)
unfolding encode_with
encode_lower-lack c [] some small = All-nil (λ byte. byte ≢ c)
encode_lower-lack c (b ∷ rest) some small =
    let Other : ℕ → Type 0 = λ byte. byte ≢ c in
    All-cons Other (get_or lower_digits (b / 16) 0) (get_or lower_digits (b % 16) 0 ∷ encode_lower rest) (lower_digit-not c (b / 16) some small)
    (All-cons Other (get_or lower_digits (b % 16) 0) (encode_lower rest) (lower_digit-not c (b % 16) some small) (encode_lower-lack c rest some small))

bytes_or_dash-lack : (c : ℕ) (bytes : List ℕ) → 0 < c → c < 45 → All (λ byte. byte ≢ c) (bytes_or_dash bytes)
bytes_or_dash-lack c [] some small = All-cons (λ byte. byte ≢ c) 45 [] (λ is. omega arith) (All-nil (λ byte. byte ≢ c))
bytes_or_dash-lack c (b ∷ more) some small = encode_lower-lack c (b ∷ more) some (omega arith)

-- so is what stands for bytes
pub IsWord-bytes_or_dash : (bytes : List ℕ) → IsWord (bytes_or_dash bytes)
IsWord-bytes_or_dash bytes = record {
  nonempty = λ none. omega (arith, bytes_or_dash-nonempty bytes, ap length none);
  no_space = bytes_or_dash-lack 32 bytes (lit< tt) (lit< tt);
  no_newline = bytes_or_dash-lack 10 bytes (lit< tt) (lit< tt);
}

-- it is `-`, or has two digits for each byte
pub length-bytes_or_dash : (bytes : List ℕ) → 0 < length bytes → length (bytes_or_dash bytes) ≡ 2 * length bytes
length-bytes_or_dash [] some = absurd (omega arith)
length-bytes_or_dash (byte ∷ more) some = length-encode_with lower_digits (byte ∷ more)

-- ---- a word stands for one value

-- no two lists of bytes have the same word
pub bytes_or_dash-injective : (a b : List ℕ) → IsBytes a → IsBytes b → bytes_or_dash a ≡ bytes_or_dash b → a ≡ b
bytes_or_dash-injective [] [] ha hb is = refl
bytes_or_dash-injective [] (y ∷ b) ha hb is = absurd (omega (arith, ap length is, length-encode_with lower_digits (y ∷ b)))
bytes_or_dash-injective (x ∷ a) [] ha hb is = absurd (omega (arith, ap length is, length-encode_with lower_digits (x ∷ a)))
bytes_or_dash-injective (x ∷ a) (y ∷ b) ha hb is =
    decode_of-same (encode_lower (x ∷ a)) (x ∷ a) (y ∷ b) (decode_of-encode_lower (x ∷ a) ha) (ap decode_of is ∙ decode_of-encode_lower (y ∷ b) hb)
