-- The tokens of a whole source, which is cut into pieces; or the place where the cut can't go on.
use Rattle.std.specs.Prelude.{ℕ, ◌+◌, ◌<◌, ◌≤◌, List, [], ◌∷◌, ◌++◌, length, take, drop, slice_range, Option, Some, None}
use Rattle.csub_lex.specs.declared.token.TokenKind.{TokenKind}
use Rattle.csub_lex.specs.declared.token.Token.{Token}
use Rattle.csub_lex.specs.declared.error.LexKind.{LexKind}
use Rattle.csub_lex.specs.declared.error.LexKind.TheVariants as faults
use Rattle.csub_lex.specs.declared.error.LexError.{LexError}
use Rattle.csub_lex.specs.declared.error.LexError.TheVariants as errors
use Rattle.csub_lex.specs.Pieces.{Piece, Stuck}

-- a token of the kind that is spelled by the text behind `before`
abbrev pub token_at : List ℕ → List ℕ → TokenKind → Token
token_at before text kind = record { kind = kind; span = record { start = length before; end = length before + length text } }

-- `Tokens before bytes tokens`: the bytes, behind `before`, are cut into pieces, of which these are the tokens in their order
pub data Tokens : List ℕ → List ℕ → List Token → Type 0 where
  ends : {before : List ℕ} → Tokens before [] []
  skips : {before : List ℕ} (text after : List ℕ) {tokens : List Token} → Piece before text after None → Tokens (before ++ text) after tokens
      → Tokens before (text ++ after) tokens
  takes : {before : List ℕ} (text after : List ℕ) (kind : TokenKind) {tokens : List Token} → Piece before text after (Some kind)
      → Tokens (before ++ text) after tokens → Tokens before (text ++ after) (token_at before text kind ∷ tokens)

-- `Fault before bytes kind at`: the bytes, behind `before`, are cut into pieces up to the place `at`, where none begins
pub data Fault : List ℕ → List ℕ → LexKind → ℕ → Type 0 where
  here : {before bytes : List ℕ} {kind : LexKind} → Stuck before bytes kind → Fault before bytes kind (length before)
  later : {before : List ℕ} (text after : List ℕ) (piece : Option TokenKind) {kind : LexKind} {at : ℕ} → Piece before text after piece
      → Fault (before ++ text) after kind at → Fault before (text ++ after) kind at

-- the error that names a fault at a place
abbrev pub error_of : LexKind → ℕ → LexError
error_of faults.Byte at = errors.Byte at
error_of faults.Number at = errors.Number at
error_of faults.Directive at = errors.Directive at

-- an error names a fault of the source; want of memory says nothing of it
abbrev pub Names : LexError → List ℕ → Type 0
Names (errors.Byte at) source = Fault [] source faults.Byte at
Names (errors.Number at) source = Fault [] source faults.Number at
Names (errors.Directive at) source = Fault [] source faults.Directive at
Names errors.Memory source = Unit {0}

-- from a place on, the tokens stand in the source in their order and apart, and each is spelled by the bytes of its span
abbrev pub Spelled : List ℕ → ℕ → List Token → Type 0
Spelled source place [] = place ≤ length source
Spelled source place (t ∷ more) =
    (place ≤ t.span.start) × (t.span.start < t.span.end)
    × Piece (take t.span.start source) (slice_range source t.span.start t.span.end) (drop t.span.end source) (Some t.kind) × Spelled source t.span.end more

-- the place that an error names has a byte
abbrev pub InSource : LexError → List ℕ → Type 0
InSource (errors.Byte at) source = at < length source
InSource (errors.Number at) source = at < length source
InSource (errors.Directive at) source = at < length source
InSource errors.Memory source = Unit {0}
