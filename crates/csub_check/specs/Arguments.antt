-- How the arguments of a call are looked at one after the other. No definition of what calls mean needs this file.
use Rattle.std.specs.Prelude.{List, [], ◌∷◌, Bool, true, false, Option, None, not, if◌then◌else◌}
use Rattle.csub_text.specs.declared.span.Span.{Span}
use Rattle.csub_tree.specs.Expressions.{Expr, Exprs, NoExprs, MoreExprs}
use Rattle.csub_objects.specs.Types.{TypeTree}
use Rattle.csub_scopes.specs.Scopes.{Scope}
use Rattle.csub_rules.specs.declared.fault.Fault.{Fault}
use Rattle.csub_rules.specs.Faults.{fault_if, ◌or_earlier◌}
use Rattle.csub_rules.specs.Sorts.{Sort, lacks, is_number}
use Rattle.csub_rules.specs.Callees.{Callee, no_function, user_function, getchar_function, putchar_function, printf_function, exit_function}
use Rattle.csub_rules.specs.Callees.{fixed_params, takes, take_all, misfits, are_numbers}
use Rattle.csub_rules.specs.Formats.{literal_of, is_literal, is_format}
use Rattle.csub_rules.specs.ExprFaults.{Standing, is_later, is_whole, format_fault, args_fault, numbers_fault, printf_fault}

-- what is wanted of the arguments that are still to come: one for each parameter; a format and numbers; numbers
pub data Wanted : Type 0 where
  for_types : List TypeTree → Wanted
  a_format : Wanted
  numbers : Wanted

abbrev pub wanted_of : Callee → Wanted
wanted_of printf_function = a_format
wanted_of c = for_types (fixed_params c)

-- what is wanted after one argument
abbrev pub after : Wanted → Wanted
after (for_types []) = for_types []
after (for_types (p ∷ ps)) = for_types ps
after a_format = numbers
after numbers = numbers

-- the next argument suits, misfits, and breaks a rule, where it breaks the first by itself and lacks a number by the second
abbrev pub next_suits : Wanted → Sort → Bool
next_suits (for_types []) s = false
next_suits (for_types (p ∷ ps)) s = takes p s
next_suits a_format s = true
next_suits numbers s = is_number s

abbrev pub next_misfits : Wanted → Sort → Bool
next_misfits (for_types []) s = true
next_misfits (for_types (p ∷ ps)) s = lacks s (takes p s)
next_misfits a_format s = false
next_misfits numbers s = false

abbrev pub next_fault : Wanted → Expr → Option Fault → Option Fault → Option Fault
next_fault (for_types ps) e own number = own
next_fault a_format e own number = if is_literal e then None else own or_earlier number
next_fault numbers e own number = own or_earlier number

-- the same of all that are to come
abbrev pub all_suit : Wanted → List Sort → Bool
all_suit (for_types ps) ss = take_all ps ss
all_suit a_format [] = true
all_suit a_format (s ∷ ss) = are_numbers ss
all_suit numbers ss = are_numbers ss

abbrev pub any_misfit : Wanted → List Sort → Bool
any_misfit (for_types ps) ss = misfits ps ss
any_misfit a_format ss = false
any_misfit numbers ss = false

abbrev pub all_fault : Scope → Standing → Wanted → Exprs → Option Fault
all_fault scope h (for_types ps) es = args_fault scope h es
all_fault scope h a_format es = printf_fault scope h es
all_fault scope h numbers es = numbers_fault scope h es

-- the first argument is a format that asks for the others
abbrev pub first_format : Exprs → Bool
first_format NoExprs = false
first_format (MoreExprs e rest) = is_format (literal_of e) rest

-- the same where it is asked for
abbrev pub formats : Callee → Exprs → Bool
formats no_function args = true
formats (user_function params result) args = true
formats getchar_function args = true
formats putchar_function args = true
formats printf_function args = first_format args
formats exit_function args = true

-- what a call breaks by itself, where its arguments misfit or not
abbrev pub own_fault : Standing → Span → Callee → Exprs → Bool → Option Fault
own_fault h at no_function args misfit = fault_if true 12 at
own_fault h at (user_function params result) args misfit = fault_if misfit 13 at or_earlier fault_if (is_later h) 14 at
own_fault h at getchar_function args misfit = fault_if misfit 13 at
own_fault h at putchar_function args misfit = fault_if misfit 13 at
own_fault h at printf_function args misfit = format_fault at args
own_fault h at exit_function args misfit = fault_if misfit 13 at or_earlier fault_if (not (is_whole h)) 20 at
