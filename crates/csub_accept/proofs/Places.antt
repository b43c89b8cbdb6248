-- The place that a refusal tells lies in the source, or at its end.
use Rattle.std.proofs.Common.{ℕ, zero, suc, ◌+◌, ◌<◌, ◌≤◌, List, [], ◌∷◌, ◌++◌, length, drop, arith, length-append, sym, subst, Result, Ok, Err}
use Rattle.std.specs.Prelude.{IfErr}
use Rattle.csub_text.specs.declared.span.Span.{Span}
use Rattle.csub_lex.specs.declared.error.LexKind.{LexKind}
use Rattle.csub_lex.specs.declared.token.Token.{Token}
use Rattle.csub_lex.specs.Pieces.{Stuck, no_number, no_directive, no_byte}
use Rattle.csub_lex.specs.Tokens.{Fault, here, later}
use Rattle.fault_places.specs.Within.{IsWithin, WithinEach}
use Rattle.fault_places.proofs.LawsSpelled.{tokens_within}
use Rattle.fault_places.proofs.LawsPlaces.{place_within}
use Rattle.csub_answers.specs.declared.error.SourceError.{SourceError}
use Rattle.csub_answers.specs.declared.error.SourceError.TheVariants.{TooLong, Lex, Syntax, Meaning, Limit, Memory}
use Rattle.csub_answers.specs.Accepted.{first_place, HasCause, TellsWithin}

-- ---- faults of the cut

-- where no piece begins some bytes, there is a byte
stuck_some : (before bytes : List ℕ) (kind : LexKind) → Stuck before bytes kind → 1 ≤ length bytes
stuck_some before bytes kind (no_number b bs d none) = omega arith
stuck_some before bytes kind (no_directive bs none) = omega arith
stuck_some before bytes kind (no_byte b bs d h none) = omega arith

fault_before : (before bytes : List ℕ) (kind : LexKind) (at : ℕ) → Fault before bytes kind at → at < length before + length bytes
fault_before before bytes kind at (here stuck) = omega (arith, stuck_some before bytes kind stuck)
fault_before before bytes kind at (later text after piece p more) =
    omega (arith, length-append before text, length-append text after, fault_before (before ++ text) after kind at more)

-- ---- places of tokens

abbrev EachWithin : ℕ → List Token → Type 0
EachWithin n ts = WithinEach (λ (t : Token). IsWithin n t.span) ts

dropped : (n k : ℕ) (ts : List Token) → EachWithin n ts → EachWithin n (drop k ts)
dropped n zero ts w = w
dropped n (suc k) [] w = tt
dropped n (suc k) (t ∷ ts) w = dropped n k ts w.1

first_within : (bytes : List ℕ) (ts : List Token) → EachWithin (length bytes) ts → IsWithin (length bytes) (first_place bytes ts)
first_within bytes [] w = record { ordered = omega arith; within = omega arith }
first_within bytes (t ∷ ts) w = w.0

-- ---- all of them

-- a place, as its two facts
as_told : (n : ℕ) (at : Span) → IsWithin n at → (at.start ≤ at.end) × (at.end ≤ n)
as_told n at w = (w.ordered, w.within)

pub told_within : (bytes : List ℕ) (error : SourceError) → HasCause bytes error → TellsWithin bytes error
told_within bytes (TooLong n) h = tt
told_within bytes (Lex kind at) h = omega (arith, fault_before [] bytes kind at.start h.1)
told_within bytes (Syntax at) h =
    let w = first_within bytes (drop h.token h.tokens) (dropped (length bytes) h.token h.tokens (tokens_within bytes h.tokens h.cut)) in
    as_told (length bytes) at (subst (IsWithin (length bytes)) (sym h.place) w)
told_within bytes (Meaning rule at) h =
    as_told (length bytes) at
    (place_within bytes h.reads.tokens h.source (record { rule = rule; span = at }) h.reads.cut h.reads.spelled.1 h.why)
told_within bytes (Limit number count) h = tt
told_within bytes Memory h = tt

-- of an answer
pub told_by : {A : Type 0} (bytes : List ℕ) (r : Result A SourceError) → IfErr r (HasCause bytes) → IfErr r (TellsWithin bytes)
told_by bytes (Ok program) h = tt
told_by bytes (Err error) h = told_within bytes error h
