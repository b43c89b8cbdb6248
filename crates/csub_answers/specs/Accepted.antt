-- Which sources are accepted, and why others aren't.
use Rattle.std.specs.Prelude.{ℕ, ◌+◌, ◌≤◌, ◌<◌, ◌≡◌, List, [], ◌∷◌, length, drop}
use Rattle.csub_text.specs.declared.span.Span.{Span}
use Rattle.csub_lex.specs.declared.token.Token.{Token}
use Rattle.csub_lex.specs.Tokens.{Tokens, Fault}
use Rattle.csub_tree.specs.Units.{Source}
use Rattle.csub_semantics.specs.Syntax.{ProgramTree}
use Rattle.csub_parse.specs.declared.error.ParseError.TheVariants as parsing
use Rattle.csub_parse.specs.Syntax as syntax
use Rattle.csub_answers.specs.declared.error.ResolveError.TheVariants as resolving
use Rattle.csub_answers.specs.Answers.{IsResolved}
use Rattle.csub_answers.specs.Answers as resolved
use Rattle.csub_answers.specs.declared.error.SourceError.{SourceError}
use Rattle.csub_answers.specs.declared.error.SourceError.TheVariants.{TooLong, Lex, Syntax, Meaning, Limit, Memory}

abbrev pub most_bytes : ℕ
most_bytes = 1048576

-- the source has so few bytes, and is cut into these tokens, which spell this unit, no deeper than 256
pub record Reads (bytes : List ℕ) (u : Source) : Type 0 where
  pub short : length bytes ≤ most_bytes
  pub tokens : List Token
  pub cut : Tokens [] bytes tokens
  pub spelled : syntax.Within 256 u tokens

-- the source is accepted, and this is its program
pub record Accepted (bytes : List ℕ) (P : ProgramTree) : Type 0 where
  pub source : Source
  pub reads : Reads bytes source
  pub resolved : IsResolved source P

-- the place of the first of some tokens; where there is none, the empty place at the end of the source
abbrev pub first_place : List ℕ → List Token → Span
first_place bytes [] = record { start = length bytes; end = length bytes }
first_place bytes (t ∷ rest) = t.span

-- the place of a token by its number from 0
abbrev pub place_of : List ℕ → List Token → ℕ → Span
place_of bytes tokens k = first_place bytes (drop k tokens)

-- no unit goes on at a token, whose place this is
pub record NoUnitAt (bytes : List ℕ) (at : Span) : Type 0 where
  pub short : length bytes ≤ most_bytes
  pub tokens : List Token
  pub cut : Tokens [] bytes tokens
  pub token : ℕ
  pub cause : syntax.HasCause 256 tokens (parsing.Syntax token)
  pub place : at ≡ place_of bytes tokens token

-- the unit of the source is refused
pub record Refuses (bytes : List ℕ) (cause : Source → Type 0) : Type 0 where
  pub source : Source
  pub reads : Reads bytes source
  pub why : cause source

-- why a source isn't accepted: the first of these that is so; want of memory may come anywhere
abbrev pub HasCause : List ℕ → SourceError → Type 0
HasCause bytes (TooLong n) = (most_bytes < length bytes) × (n ≡ length bytes)
HasCause bytes (Lex kind at) = (length bytes ≤ most_bytes) × Fault [] bytes kind at.start × (at.end ≡ at.start + 1)
HasCause bytes (Syntax at) = NoUnitAt bytes at
HasCause bytes (Meaning rule at) = Refuses bytes (λ u. resolved.HasCause u (resolving.Meaning rule at))
HasCause bytes (Limit number count) = Refuses bytes (λ u. resolved.HasCause u (resolving.Limit number count))
HasCause bytes Memory = Unit {0}

-- the place that is told lies in the source, or at its end
abbrev pub TellsWithin : List ℕ → SourceError → Type 0
TellsWithin bytes (Lex kind at) = at.start < length bytes
TellsWithin bytes (Syntax at) = (at.start ≤ at.end) × (at.end ≤ length bytes)
TellsWithin bytes (Meaning rule at) = (at.start ≤ at.end) × (at.end ≤ length bytes)
TellsWithin bytes cause = Unit {0}
