-- Faults whose place lies within so many bytes.
use Rattle.std.proofs.Common.{ℕ, Bool, Option, arith}
use Rattle.csub_text.specs.declared.span.Span.{Span}
use Rattle.csub_rules.specs.declared.fault.Fault.{Fault}
use Rattle.csub_rules.specs.Faults.{fault_if}
use Rattle.csub_rules.specs.Words.{first_bytes}
use Rattle.csub_rules.proofs.LawsSound.{Gives, tells}
use Rattle.fault_places.specs.Within.{IsWithin}

-- a fault, if there is one, lies within so many bytes
abbrev pub Told : ℕ → Option Fault → Type 0
Told n o = Gives o (λ f. IsWithin n f.span)

-- that of a test lies at its place
pub told_if : {n : ℕ} (t : Bool) (r : ℕ) {s : Span} → IsWithin n s → Told n (fault_if t r s)
told_if {n} t r {s} w = tells {P = λ f. IsWithin n f.span} t r s (λ p. w)

-- the first bytes of a place
pub first_within : {n : ℕ} (m : ℕ) (s : Span) → IsWithin n s → IsWithin n (first_bytes m s)
first_within {n} m s w = record { ordered = grind (arith, w.ordered); within = grind (arith, w.within) }
