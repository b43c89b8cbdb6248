-- What a source is cut into (C11 5.1.1.2p3, 6.4), from the left: blanks, comments, include lines and tokens. Each piece is said with
-- what stands before it and with what may follow it, so it is as long as the rules allow.
use Rattle.std.specs.Prelude.{ℕ, ◌≡◌, ◌≢◌, List, [], ◌∷◌, ◌++◌, codes, Option, Some, None, Bool, true, false}
use Rattle.std.specs.Char.{is_ascii_digit}
use Rattle.csub_lex.specs.declared.token.Mark.{Mark}
use Rattle.csub_lex.specs.declared.token.TokenKind.{TokenKind}
use Rattle.csub_lex.specs.declared.token.TokenKind.TheVariants as kinds
use Rattle.csub_lex.specs.declared.error.LexKind.{LexKind}
use Rattle.csub_lex.specs.declared.error.LexKind.TheVariants as faults
use Rattle.csub_lex.specs.Bytes.{is_blank, is_gap, is_letter, is_word, no_newline, Run, Stops}
use Rattle.csub_lex.specs.Words.{Word}
use Rattle.csub_lex.specs.Marks.{mark_text, IsLongest, NoComment}
use Rattle.csub_lex.specs.Numbers.{Number}
use Rattle.csub_lex.specs.Quoted.{Characters}
use Rattle.csub_lex.specs.Lines.{NoClose, blank_line, Header, EndsInclude}

-- `Piece before text after kind`: the text, behind `before` and in front of `after`, is one piece: a token of the kind, or none
pub data Piece (before : List ℕ) : List ℕ → List ℕ → Option TokenKind → Type 0 where
  -- white space (C11 6.4p3)
  blank : (b : ℕ) (after : List ℕ) → is_blank b ≡ true → Piece before (b ∷ []) after None
  -- `//` and the bytes up to the end of the line (C11 6.4.9p2)
  line_comment : (body after : List ℕ) → Run no_newline body → Stops no_newline after → Piece before (47 ∷ 47 ∷ body) after None
  -- `/*` and the bytes up to the first `*/` behind it (C11 6.4.9p1)
  comment : (body after : List ℕ) → NoClose (body ++ 42 ∷ []) → Piece before (47 ∷ 42 ∷ (body ++ 42 ∷ 47 ∷ [])) after None
  -- `#`, `include` and a header with blanks round them, alone on their line but for a comment behind them (C11 6.10p2, 6.10.2p2)
  include_line : (gap_1 gap_2 header gap_3 after : List ℕ) → blank_line before ≡ true → Run is_gap gap_1 → Run is_gap gap_2
      → Header header → Run is_gap gap_3 → EndsInclude after
      → Piece before (35 ∷ (gap_1 ++ (codes "include" ++ (gap_2 ++ (header ++ gap_3))))) after None
  -- a keyword or a name (C11 6.4.1, 6.4.2)
  word : (b : ℕ) (bs after : List ℕ) (kind : TokenKind) → is_letter b ≡ true → Run is_word bs → Stops is_word after → Word (b ∷ bs) kind
      → Piece before (b ∷ bs) after (Some kind)
  -- a number: a whole run of letters, digits and `_` (C11 6.4.8, 6.4.4.1)
  number : (b : ℕ) (bs after : List ℕ) (value : ℕ) (unsigned : Bool) → is_ascii_digit b ≡ true → Run is_word bs → Stops is_word after
      → Number (b ∷ bs) value unsigned → Piece before (b ∷ bs) after (Some (kinds.Number value unsigned))
  -- one character between `'` (C11 6.4.4.4)
  character : (text after : List ℕ) (value : ℕ) → Characters 39 text (value ∷ [])
      → Piece before (39 ∷ (text ++ 39 ∷ [])) after (Some (kinds.Char value))
  -- any number of characters between `"` (C11 6.4.5)
  string : (text after bytes : List ℕ) → Characters 34 text bytes → Piece before (34 ∷ (text ++ 34 ∷ [])) after (Some (kinds.Text bytes))
  -- the longest mark (C11 6.4.6, 6.4p4), where no comment is opened
  punctuator : (mark : Mark) (after : List ℕ) → IsLongest mark (mark_text mark ++ after) → NoComment (mark_text mark ++ after)
      → Piece before (mark_text mark) after (Some (kinds.Mark mark))

-- no piece begins the bytes
abbrev pub NoPiece : List ℕ → List ℕ → Type 0
NoPiece before bytes =
    (text after : List ℕ) (kind : Option TokenKind) → bytes ≡ text ++ after → Piece before text after kind → ⊥

-- bytes that no piece begins, and what is missing: a number where a digit stands, an include line at a `#`, and else any piece
pub data Stuck (before : List ℕ) : List ℕ → LexKind → Type 0 where
  no_number : (b : ℕ) (bs : List ℕ) → is_ascii_digit b ≡ true → NoPiece before (b ∷ bs)
      → Stuck before (b ∷ bs) faults.Number
  no_directive : (bs : List ℕ) → NoPiece before (35 ∷ bs) → Stuck before (35 ∷ bs) faults.Directive
  no_byte : (b : ℕ) (bs : List ℕ) → is_ascii_digit b ≡ false → b ≢ 35 → NoPiece before (b ∷ bs)
      → Stuck before (b ∷ bs) faults.Byte
