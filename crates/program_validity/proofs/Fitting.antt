-- What the tokens of a text are: numbers and characters in their ranges, and no more than its bytes.
use Rattle.std.proofs.Common.{◌≡◌, subst, arith, ℕ, ◌≤◌, List, [], ◌∷◌, ◌++◌, length, length-append, Option, Some, None, Bool, true, false}
use Rattle.std.specs.Prelude.{◌==◌, if◌then◌else◌}
use Rattle.std.proofs.lemmas.Bool.Decides.{nat_tests}
use Rattle.csub_lex.specs.declared.token.Token.{Token}
use Rattle.csub_lex.specs.declared.token.TokenKind.{TokenKind}
use Rattle.csub_lex.specs.declared.token.TokenKind.TheVariants as kinds
use Rattle.csub_lex.specs.declared.token.Mark.{Mark}
use Rattle.csub_lex.specs.Marks.{mark_text}
use Rattle.csub_lex.specs.Words.{Word, keyword, name}
use Rattle.csub_lex.specs.Numbers.{Number, decimal, octal, hexadecimal}
use Rattle.csub_lex.specs.Quoted.{Characters, plain, escape, is_plain, escape_value}
use Rattle.csub_lex.specs.Pieces.{Piece, blank, line_comment, comment, include_line, word, number, character, string, punctuator}
use Rattle.csub_lex.specs.Tokens.{Tokens, ends, skips, takes}

-- ---- ranges

-- a number has 32 bits, and a character is a byte
abbrev pub FitKind : TokenKind → Type 0
FitKind (kinds.Key k) = Unit {0}
FitKind (kinds.Name x) = Unit {0}
FitKind (kinds.Number n u) = n ≤ 4294967295
FitKind (kinds.Char b) = b ≤ 255
FitKind (kinds.Text t) = Unit {0}
FitKind (kinds.Mark m) = Unit {0}

abbrev FitMaybe : Option TokenKind → Type 0
FitMaybe None = Unit {0}
FitMaybe (Some kind) = FitKind kind

abbrev pub Fit : List Token → Type 0
Fit [] = Unit {0}
Fit (t ∷ ts) = FitKind t.kind × Fit ts

pub left_fit : (s t : List Token) → Fit (s ++ t) → Fit s
left_fit [] t h = tt
left_fit (x ∷ s) t h = (h.0, left_fit s t h.1)

pub right_fit : (s t : List Token) → Fit (s ++ t) → Fit t
right_fit [] t h = h
right_fit (x ∷ s) t h = right_fit s t h.1

of_word : (text : List ℕ) (kind : TokenKind) → Word text kind → FitKind kind
of_word text kind (keyword k) = tt
of_word text kind (name t n) = tt

of_number : (text : List ℕ) (value : ℕ) (unsigned : Bool) → Number text value unsigned → value ≤ 4294967295
of_number text value unsigned (decimal d more v u h k i small s) = small
of_number text value unsigned (octal more v u i small) = small
of_number text value unsigned (hexadecimal x d more v u h k i small) = small

-- a byte that stands for itself is below 127
of_plain : (quote b : ℕ) → is_plain quote b ≡ true → b ≤ 255
of_plain quote b h = grind (arith, nat_tests)

-- what a `\` and a byte stand for
abbrev AtMost : Option ℕ → Type 0
AtMost None = Unit {0}
AtMost (Some v) = v ≤ 255

chosen : (b : Bool) (v : ℕ) (o : Option ℕ) → v ≤ 255 → AtMost o → AtMost (if b then Some v else o)
chosen true v o h k = h
chosen false v o h k = k

of_escape : (e : ℕ) → AtMost (escape_value e)
of_escape e =
    chosen (e == 110) 10 _ (omega arith) (chosen (e == 116) 9 _ (omega arith) (chosen (e == 114) 13 _ (omega arith) (chosen (e == 97) 7 _ (omega arith) (
    chosen (e == 98) 8 _ (omega arith) (chosen (e == 102) 12 _ (omega arith) (chosen (e == 118) 11 _ (omega arith) (chosen (e == 92) 92 _ (omega arith) (
    chosen (e == 39) 39 _ (omega arith) (chosen (e == 34) 34 _ (omega arith) (chosen (e == 63) 63 _ (omega arith) (chosen (e == 48) 0 None (omega arith) tt)))))))))))

of_character : (quote : ℕ) (text : List ℕ) (value : ℕ) → Characters quote text (value ∷ []) → value ≤ 255
of_character quote text value (plain b t bs h rest) = of_plain quote b h
of_character quote text value (escape e v t bs is s rest) = subst AtMost is (of_escape e)

of_piece : (before text after : List ℕ) (o : Option TokenKind) → Piece before text after o → FitMaybe o
of_piece before text after o (blank b a e) = tt
of_piece before text after o (line_comment body a r s) = tt
of_piece before text after o (comment body a n) = tt
of_piece before text after o (include_line g1 g2 h g3 a b r1 r2 d r3 e) = tt
of_piece before text after o (word b bs a kind l r s w) = of_word (b ∷ bs) kind w
of_piece before text after o (number b bs a v u d r s n) = of_number (b ∷ bs) v u n
of_piece before text after o (character t a v c) = of_character 39 t v c
of_piece before text after o (string t a bs c) = tt
of_piece before text after o (punctuator m a l n) = tt

fit_behind : (before bytes : List ℕ) (ts : List Token) → Tokens before bytes ts → Fit ts
fit_behind before bytes ts ends = tt
fit_behind before bytes ts (skips text after {tokens = more} p rest) = fit_behind (before ++ text) after more rest
fit_behind before bytes ts (takes text after kind {tokens = more} p rest) =
    (of_piece before text after (Some kind) p, fit_behind (before ++ text) after more rest)

-- numbers have 32 bits, and characters are bytes
pub fit : (bytes : List ℕ) (ts : List Token) → Tokens [] bytes ts → Fit ts
fit bytes ts cut = fit_behind [] bytes ts cut

-- ---- counts

mark_some : (m : Mark) → 1 ≤ length (mark_text m)
mark_some m = grind arith

-- a piece has a byte or more
piece_some : (before text after : List ℕ) (o : Option TokenKind) → Piece before text after o → 1 ≤ length text
piece_some before text after o (blank b a e) = omega arith
piece_some before text after o (line_comment body a r s) = omega arith
piece_some before text after o (comment body a n) = omega arith
piece_some before text after o (include_line g1 g2 h g3 a b r1 r2 d r3 e) = omega arith
piece_some before text after o (word b bs a kind l r s w) = omega arith
piece_some before text after o (number b bs a v u d r s n) = omega arith
piece_some before text after o (character t a v c) = omega arith
piece_some before text after o (string t a bs c) = omega arith
piece_some before text after o (punctuator m a l n) = mark_some m

few_behind : (before bytes : List ℕ) (ts : List Token) → Tokens before bytes ts → length ts ≤ length bytes
few_behind before bytes ts ends = omega arith
few_behind before bytes ts (skips text after {tokens = more} p rest) = omega (arith, length-append text after, few_behind (before ++ text) after more rest)
few_behind before bytes ts (takes text after kind {tokens = more} p rest) =
    omega (arith, length-append text after, piece_some before text after (Some kind) p, few_behind (before ++ text) after more rest)

-- there are at most as many tokens as bytes
pub few : (bytes : List ℕ) (ts : List Token) → Tokens [] bytes ts → length ts ≤ length bytes
few bytes ts cut = few_behind [] bytes ts cut
