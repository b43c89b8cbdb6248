-- What is asked of an expression where it stands by itself, and of an enum constant.
use Rattle.std.specs.Prelude.{ℤ, Bool, true, false, Option, Some, None, is_some, not}
use Rattle.csub_text.specs.declared.span.Span.{Span}
use Rattle.csub_tree.specs.Expressions.{Expr, span_of}
use Rattle.csub_scopes.specs.Scopes.{Scope}
use Rattle.csub_rules.specs.declared.fault.Fault.{Fault}
use Rattle.csub_rules.specs.Faults.{fault_if, ◌or_earlier◌}
use Rattle.csub_rules.specs.Sorts.{Sort, a_place, a_value, a_void, no_sort, lacks, is_number}
use Rattle.csub_rules.specs.ExprSorts.{sort_of}
use Rattle.csub_rules.specs.Constants.{constant, enum_value}
use Rattle.csub_rules.specs.ExprFaults.{Standing, whole_statement, operand, fault}

-- a whole expression statement; the first or the third part of a `for`; where a number is asked for, as a condition is;
-- where a constant is asked for
pub data Use : Type 0 where
  as_statement : Use
  as_part : Use
  as_number : Use
  as_constant : Use

abbrev pub standing_of : Use → Standing
standing_of as_statement = whole_statement
standing_of as_part = operand
standing_of as_number = operand
standing_of as_constant = operand

-- a number, a call without a value, or `exit`, which has no sort
abbrev pub has_effect : Sort → Bool
has_effect (a_place t) = is_number (a_place t)
has_effect (a_value k) = true
has_effect a_void = true
has_effect no_sort = true

abbrev pub serves : Use → Sort → Bool
serves as_statement s = has_effect s
serves as_part s = has_effect s
serves as_number s = is_number s
serves as_constant s = is_number s

-- M9: a constant is asked for, and the expression is none or traps (C11 6.6p3 and p4)
abbrev pub lacks_constant : Scope → Use → Expr → Bool
lacks_constant scope as_statement e = false
lacks_constant scope as_part e = false
lacks_constant scope as_number e = false
lacks_constant scope as_constant e = not (is_some (constant scope e))

-- M7: an array, a struct or a call without a value stands where it doesn't serve
abbrev pub lacks_use : Scope → Use → Expr → Bool
lacks_use scope u e = lacks (sort_of scope e) (serves u (sort_of scope e))

-- the earliest fault of an expression that is used so
abbrev pub use_fault : Scope → Use → Expr → Option Fault
use_fault scope u e =
    fault scope (standing_of u) e or_earlier fault_if (lacks_use scope u e) 7 (span_of e)
    or_earlier fault_if (lacks_constant scope u e) 9 (span_of e)

-- M9: the value of an enum constant is no constant, or `int` doesn't have it (C11 6.7.2.2p2)
abbrev pub lacks_value : Scope → ℤ → Option Expr → Bool
lacks_value scope next value = not (is_some (enum_value scope next value))

-- the earliest fault of an enum constant at a name, which without an expression would have the value `next`
abbrev pub enum_fault : Scope → ℤ → Span → Option Expr → Option Fault
enum_fault scope next at None = fault_if (lacks_value scope next None) 9 at
enum_fault scope next at (Some e) = use_fault scope as_number e or_earlier fault_if (lacks_value scope next (Some e)) 9 (span_of e)
