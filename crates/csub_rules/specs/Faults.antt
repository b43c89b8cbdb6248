-- Faults, each a broken rule at its place, and which of two comes first.
use Rattle.std.specs.Prelude.{◌≡◌, ℕ, ◌<◌, ◌≤◌, Bool, true, false, Option}
use Rattle.std.specs.Prelude.{Some, None, nat_lt, nat_eq, ◌&&◌, ◌||◌, ◌⊎◌, if◌then◌else◌}
use Rattle.csub_text.specs.declared.span.Span.{Span}
use Rattle.csub_rules.specs.declared.fault.Fault.{Fault}

-- rule r is broken at s where the test says so
abbrev pub fault_if : Bool → ℕ → Span → Option Fault
fault_if true r s = Some (record { rule = r; span = s })
fault_if false r s = None

-- g stands before f in the source, or at the same place with a lesser rule
abbrev pub is_before : Fault → Fault → Bool
is_before g f = nat_lt g.span.start f.span.start || (nat_eq g.span.start f.span.start && nat_lt g.rule f.rule)

infixl 12 ◌or_earlier◌
-- the earlier of two faults
abbrev pub ◌or_earlier◌ : Option Fault → Option Fault → Option Fault
None or_earlier g = g
(Some f) or_earlier None = Some f
(Some f) or_earlier (Some g) = if is_before g f then Some g else Some f

-- f stands before g, or at the same place with a rule that isn't greater
abbrev pub IsFirst : Fault → Fault → Type 0
IsFirst f g = (f.span.start < g.span.start) ⊎ ((f.span.start ≡ g.span.start) × (f.rule ≤ g.rule))

-- there is a fault, and it comes no later than g
abbrev pub Covers : Option Fault → Fault → Type 0
Covers None g = ⊥
Covers (Some f) g = IsFirst f g
