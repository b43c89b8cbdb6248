-- The rules on expressions, and the earliest place where an expression breaks one.
use Rattle.std.specs.Prelude.{List, Bool, true, false, Option, Some, None, not, if◌then◌else◌}
use Rattle.csub_text.specs.declared.span.Span.{Span}
use Rattle.csub_tree.specs.Expressions.{Expr, Kind, Exprs, Node, Number, Char, Text, Named, Paren, Unary, Cast, Step, Binary, And, Or}
use Rattle.csub_tree.specs.Expressions.{Choose, Assign, Call, Index, Member, NoExprs, MoreExprs, span_of}
use Rattle.csub_objects.specs.Types.{Name}
use Rattle.csub_scopes.specs.Scopes.{Scope}
use Rattle.csub_rules.specs.declared.fault.Fault.{Fault}
use Rattle.csub_rules.specs.Faults.{fault_if, ◌or_earlier◌}
use Rattle.csub_rules.specs.Sorts.{Sort, lacks, is_number, is_number_place, is_array, has_member}
use Rattle.csub_rules.specs.Callees.{Callee, no_function, user_function, getchar_function, putchar_function, printf_function, exit_function}
use Rattle.csub_rules.specs.Callees.{callee_of, is_printf, fixed_params, misfits}
use Rattle.csub_rules.specs.Formats.{Literal, literal_of, is_literal, asks_for}
use Rattle.csub_rules.specs.ExprSorts.{sort_of, sorts_of, is_value_name}

-- how an expression stands: as a whole expression statement, as an operand, or within the right operand of `&&` or `||` or a
-- later operand of `?:`
pub data Standing : Type 0 where
  whole_statement : Standing
  operand : Standing
  later_operand : Standing

-- how an operand of an expression stands
abbrev pub below : Standing → Standing
below whole_statement = operand
below operand = operand
below later_operand = later_operand

abbrev pub is_whole : Standing → Bool
is_whole whole_statement = true
is_whole operand = false
is_whole later_operand = false

abbrev pub is_later : Standing → Bool
is_later whole_statement = false
is_later operand = false
is_later later_operand = true

-- M1: a name is no object, parameter or enum constant (C11 6.5.1p2)
abbrev pub is_unknown : Scope → Name → Bool
is_unknown scope x = not (is_value_name scope x)

-- M5: no struct place stands before the `.`, or the struct has no such member (C11 6.5.2.3p1)
abbrev pub lacks_member : Name → Sort → Bool
lacks_member m s = lacks s (has_member m s)

-- M6: no array place stands before the `[` (C11 6.5.2.1p1)
abbrev pub lacks_array : Sort → Bool
lacks_array s = lacks s (is_array s)

-- M6 of an index, and M7: a number is asked for
abbrev pub lacks_number : Sort → Bool
lacks_number s = lacks s (is_number s)

-- M8: a place of a number is asked for (C11 6.5.2.4p1, 6.5.3.1p1 and 6.5.16p2)
abbrev pub lacks_place : Sort → Bool
lacks_place s = lacks s (is_number_place s)

-- M7 at an expression of which a number is asked for
abbrev pub number_fault : Scope → Expr → Option Fault
number_fault scope e = fault_if (lacks_number (sort_of scope e)) 7 (span_of e)

-- M8 at an expression of which a place is asked for; a number is asked for there as well
abbrev pub place_fault : Scope → Expr → Option Fault
place_fault scope e = fault_if (lacks_place (sort_of scope e)) 8 (span_of e)

-- M20 of a call of `printf` that stands at a place: its first argument is no string; or the string, as a format, doesn't ask
-- for exactly the arguments behind it
abbrev pub literal_fault : Span → Option Literal → Exprs → Option Fault
literal_fault at None rest = fault_if true 20 at
literal_fault at (Some l) rest = fault_if (not (asks_for l rest)) 20 l.span

abbrev pub format_fault : Span → Exprs → Option Fault
format_fault at NoExprs = fault_if true 20 at
format_fault at (MoreExprs e rest) = literal_fault at (literal_of e) rest

-- What a call breaks by itself, at the callee's name. M12: no function has the name (C11 6.5.2.2p1). M13: the arguments
-- don't fit (p2). M14: a function of the source is called in a later operand. M20: `exit` is no whole statement; `printf`.
abbrev pub call_fault : Standing → Span → Callee → Exprs → List Sort → Option Fault
call_fault h at no_function args ss = fault_if true 12 at
call_fault h at (user_function params result) args ss = fault_if (misfits params ss) 13 at or_earlier fault_if (is_later h) 14 at
call_fault h at getchar_function args ss = fault_if (misfits (fixed_params getchar_function) ss) 13 at
call_fault h at putchar_function args ss = fault_if (misfits (fixed_params putchar_function) ss) 13 at
call_fault h at printf_function args ss = format_fault at args
call_fault h at exit_function args ss = fault_if (misfits (fixed_params exit_function) ss) 13 at or_earlier fault_if (not (is_whole h)) 20 at

-- the earliest fault of an expression that stands so
abbrev mutual
  pub fault : Scope → Standing → Expr → Option Fault
  fault scope h (Node k s) = kind_fault scope h k s

  pub kind_fault : Scope → Standing → Kind → Span → Option Fault
  kind_fault scope h (Number n u) s = None
  kind_fault scope h (Char b) s = None
  -- M20: a string that isn't the first argument of `printf`
  kind_fault scope h (Text t) s = fault_if true 20 s
  kind_fault scope h (Named x) s = fault_if (is_unknown scope x.text) 1 x.span
  kind_fault scope h (Paren e) s = fault scope h e
  kind_fault scope h (Unary o a) s = fault scope (below h) a or_earlier number_fault scope a
  kind_fault scope h (Cast t a) s = fault scope (below h) a or_earlier number_fault scope a
  kind_fault scope h (Step o a) s = fault scope (below h) a or_earlier number_fault scope a or_earlier place_fault scope a
  kind_fault scope h (Binary o a b) s =
      fault scope (below h) a or_earlier fault scope (below h) b or_earlier number_fault scope a or_earlier number_fault scope b
  kind_fault scope h (And a b) s =
      fault scope (below h) a or_earlier fault scope later_operand b or_earlier number_fault scope a or_earlier number_fault scope b
  kind_fault scope h (Or a b) s =
      fault scope (below h) a or_earlier fault scope later_operand b or_earlier number_fault scope a or_earlier number_fault scope b
  kind_fault scope h (Choose c a b) s =
      fault scope (below h) c or_earlier fault scope later_operand a or_earlier fault scope later_operand b
      or_earlier number_fault scope c or_earlier number_fault scope a or_earlier number_fault scope b
  kind_fault scope h (Assign o a b) s =
      fault scope (below h) a or_earlier fault scope (below h) b
      or_earlier number_fault scope a or_earlier place_fault scope a or_earlier number_fault scope b
  kind_fault scope h (Call f args) s =
      call_fault h f.span (callee_of scope f.text) args (sorts_of scope args)
      or_earlier (if is_printf (callee_of scope f.text) then printf_fault scope (below h) args else args_fault scope (below h) args)
  kind_fault scope h (Index a i) s =
      fault scope (below h) a or_earlier fault scope (below h) i
      or_earlier fault_if (lacks_array (sort_of scope a)) 6 s or_earlier fault_if (lacks_number (sort_of scope i)) 6 s
  kind_fault scope h (Member a m) s = fault scope (below h) a or_earlier fault_if (lacks_member m.text (sort_of scope a)) 5 m.span

  -- arguments, each by itself
  pub args_fault : Scope → Standing → Exprs → Option Fault
  args_fault scope h NoExprs = None
  args_fault scope h (MoreExprs e rest) = fault scope h e or_earlier args_fault scope h rest

  -- arguments of which a number is asked for
  pub numbers_fault : Scope → Standing → Exprs → Option Fault
  numbers_fault scope h NoExprs = None
  numbers_fault scope h (MoreExprs e rest) = fault scope h e or_earlier number_fault scope e or_earlier numbers_fault scope h rest

  -- the arguments of `printf`: numbers, but for a string as the first one
  pub printf_fault : Scope → Standing → Exprs → Option Fault
  printf_fault scope h NoExprs = None
  printf_fault scope h (MoreExprs e rest) =
      (if is_literal e then None else (fault scope h e or_earlier number_fault scope e)) or_earlier numbers_fault scope h rest
