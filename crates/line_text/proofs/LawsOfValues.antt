-- Laws of lines of a word and a value, for proofs here and above: a line says one thing, and no newline is in it.
use Rattle.std.proofs.Common.{◌≡◌, ◌≢◌, ◌<◌, ◌^◌, ℕ, Bool, true, not, ◌&&◌, eqb, List, [], ◌∷◌, Some, sym, ap, ◌∙◌, arith}
use Rattle.std.specs.Fmt.{decimal}
use Rattle.std.specs.List.{All}
use Rattle.std.proofs.lemmas.Bool.{and_parts}
use Rattle.std.proofs.lemmas.List.{append_cancel_left}
use Rattle.std.proofs.lemmas.List.Elements.{All-nil, All-cons, All-append}
use Rattle.hex.specs.Hex.{encode_lower}
use Rattle.line_text.specs.Bytes.{bytes_or_dash}
use Rattle.line_text.specs.Lines.{TextLine, lines_of, line_with, HasLine}
use Rattle.line_text.specs.Values.{IsDigest, value_line}
use Rattle.line_text.proofs.Laws.{IsWord-decimal, IsWord-bytes_or_dash}

-- ---- what a line says

abbrev bytes_in : TextLine → List ℕ
bytes_in line = line.bytes

-- a line has one text
pub one_line : (text : List ℕ) (n : ℕ) (a b : List ℕ) → HasLine text n a → HasLine text n b → a ≡ b
one_line text n a b one other = parts (line_with a true) (line_with b true) (sym one ∙ other)
  where
    parts : (x y : TextLine) → Some x ≡ Some y → x.bytes ≡ y.bytes
    parts x y is = let same : x ≡ y = cc is in ap bytes_in same

-- and after its word one value
pub one_value : (text : List ℕ) (n : ℕ) (word a b : List ℕ) → HasLine text n (value_line word a) → HasLine text n (value_line word b) → a ≡ b
one_value text n word a b one other = cc (append_cancel_left word (32 ∷ a) (32 ∷ b) (one_line text n (value_line word a) (value_line word b) one other))

-- the first line of a text is this
pub first_line : (text : List ℕ) (line : TextLine) (more : List TextLine) (bytes : List ℕ) → lines_of text ≡ line ∷ more → HasLine text 1 bytes → line ≡ line_with bytes true
first_line text line more bytes lines has = cc (lines, has)

-- ---- lines without a newline

-- no newline in a line
abbrev pub IsPlain : List ℕ → Type 0
IsPlain line = All (λ byte. byte ≢ 10) line

-- the same as a test, for words that are written out
abbrev pub lacks_newline : List ℕ → Bool
lacks_newline [] = true
lacks_newline (byte ∷ more) = not (eqb byte 10) && lacks_newline more

other_byte : (byte : ℕ) → not (eqb byte 10) ≡ true → byte ≢ 10
other_byte byte h is = grind arith

pub plain_word : (word : List ℕ) → lacks_newline word ≡ true → IsPlain word
plain_word [] h = All-nil (λ byte. byte ≢ 10)
plain_word (byte ∷ more) h =
    let parts = and_parts (not (eqb byte 10)) (lacks_newline more) h in
    All-cons (λ b. b ≢ 10) byte more (other_byte byte parts.0) (plain_word more parts.1)

-- nor in that of such a word and such a value
pub plain_value : (word value : List ℕ) → lacks_newline word ≡ true → IsPlain value → IsPlain (value_line word value)
plain_value word value h plain =
    All-append (λ byte. byte ≢ 10) word (32 ∷ value) (plain_word word h) (All-cons (λ byte. byte ≢ 10) 32 value (λ is. omega arith) plain)

-- a number, bytes and a digest are such values
pub plain_decimal : (n : ℕ) → n < 2 ^ 64 → IsPlain (decimal n)
plain_decimal n small = (IsWord-decimal n small).no_newline

pub plain_bytes : (bytes : List ℕ) → IsPlain (bytes_or_dash bytes)
plain_bytes bytes = (IsWord-bytes_or_dash bytes).no_newline

pub plain_digest : (digest : List ℕ) → IsDigest digest → IsPlain (encode_lower digest)
plain_digest [] h = absurd (omega (arith, h.size))
plain_digest (byte ∷ more) h = plain_bytes (byte ∷ more)
