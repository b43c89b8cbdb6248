-- The rules on expressions that stand by themselves and on enum constants, each by itself, and the laws of their faults.
use Rattle.std.specs.Prelude.{◌≡◌, ℤ, Option, Some, None, IsTrue, is_some, not}
use Rattle.csub_text.specs.declared.span.Span.{Span}
use Rattle.csub_tree.specs.Expressions.{Expr, span_of}
use Rattle.csub_scopes.specs.Scopes.{Scope, HasTypes}
use Rattle.csub_rules.specs.declared.fault.Fault.{Fault}
use Rattle.csub_rules.specs.Faults.{IsFirst}
use Rattle.csub_rules.specs.ExprSorts.{sort_of}
use Rattle.csub_rules.specs.Constants.{enum_value}
use Rattle.csub_rules.specs.ExprFaults.{is_whole}
use Rattle.csub_rules.specs.Fine.{Fine}
use Rattle.csub_rules.specs.Broken.{Broken}
use Rattle.csub_rules.specs.Uses.{Use, as_number, standing_of, serves, lacks_use, lacks_constant, use_fault, enum_fault}

pub data BrokenUse (scope : Scope) : Use → Expr → Fault → Type 0 where
  -- a rule is broken inside
  inside : (u : Use) (e : Expr) (f : Fault) → Broken scope (standing_of u) e f → BrokenUse scope u e f
  -- an array, a struct or a call without a value stands where it doesn't serve
  m7_use : (u : Use) (e : Expr) → IsTrue (lacks_use scope u e) → BrokenUse scope u e (record { rule = 7; span = span_of e })
  -- a constant is asked for, and the expression is none or traps
  m9_use : (u : Use) (e : Expr) → IsTrue (lacks_constant scope u e) → BrokenUse scope u e (record { rule = 9; span = span_of e })

-- an enum constant that without an expression would have the value `next`
pub data BrokenEnum (scope : Scope) : ℤ → Span → Option Expr → Fault → Type 0 where
  by_use : (next : ℤ) (at : Span) (e : Expr) (f : Fault) → BrokenUse scope as_number e f → BrokenEnum scope next at (Some e) f
  -- its value is no constant, or `int` doesn't have it
  m9_value : (next : ℤ) (at : Span) (e : Expr) → enum_value scope next (Some e) ≡ None
      → BrokenEnum scope next at (Some e) (record { rule = 9; span = span_of e })
  m9_next : (next : ℤ) (at : Span) → enum_value scope next None ≡ None → BrokenEnum scope next at None (record { rule = 9; span = at })

-- what can be resolved
abbrev pub FineUse : Scope → Use → Expr → Type 0
FineUse scope u e = Fine scope (is_whole (standing_of u)) e × IsTrue (serves u (sort_of scope e)) × IsTrue (not (lacks_constant scope u e))

abbrev pub FineEnum : Scope → ℤ → Option Expr → Type 0
FineEnum scope next None = IsTrue (is_some (enum_value scope next None))
FineEnum scope next (Some e) = FineUse scope as_number e × IsTrue (is_some (enum_value scope next (Some e)))

-- the four laws of expressions, for both
abbrev pub UseFaultsAreBroken : Type 0
UseFaultsAreBroken = (scope : Scope) (u : Use) (e : Expr) (f : Fault) → use_fault scope u e ≡ Some f → BrokenUse scope u e f

abbrev pub UseFaultsAreLeast : Type 0
UseFaultsAreLeast =
    (scope : Scope) (u : Use) (e : Expr) (f g : Fault) → use_fault scope u e ≡ Some f → BrokenUse scope u e g → IsFirst f g

abbrev pub NoUseFaultNothingBroken : Type 0
NoUseFaultNothingBroken = (scope : Scope) (u : Use) (e : Expr) (g : Fault) → use_fault scope u e ≡ None → BrokenUse scope u e g → ⊥

abbrev pub NoUseFaultIsFine : Type 0
NoUseFaultIsFine = (scope : Scope) (u : Use) (e : Expr) → HasTypes scope → use_fault scope u e ≡ None → FineUse scope u e

abbrev pub EnumFaultsAreBroken : Type 0
EnumFaultsAreBroken =
    (scope : Scope) (next : ℤ) (at : Span) (v : Option Expr) (f : Fault) → enum_fault scope next at v ≡ Some f → BrokenEnum scope next at v f

abbrev pub EnumFaultsAreLeast : Type 0
EnumFaultsAreLeast =
    (scope : Scope) (next : ℤ) (at : Span) (v : Option Expr) (f g : Fault) → enum_fault scope next at v ≡ Some f
    → BrokenEnum scope next at v g → IsFirst f g

abbrev pub NoEnumFaultNothingBroken : Type 0
NoEnumFaultNothingBroken =
    (scope : Scope) (next : ℤ) (at : Span) (v : Option Expr) (g : Fault) → enum_fault scope next at v ≡ None → BrokenEnum scope next at v g → ⊥

abbrev pub NoEnumFaultIsFine : Type 0
NoEnumFaultIsFine =
    (scope : Scope) (next : ℤ) (at : Span) (v : Option Expr) → HasTypes scope → enum_fault scope next at v ≡ None → FineEnum scope next v
