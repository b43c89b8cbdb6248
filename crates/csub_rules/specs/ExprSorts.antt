-- The sort of each expression (C11 6.5).
use Rattle.std.specs.Prelude.{ℕ, List, [], ◌∷◌, Bool, true, false, Option, Some, None, ◌&&◌, ◌||◌, nat_lt, if◌then◌else◌}
use Rattle.csub_text.specs.declared.operator.UnaryOp.{UnaryOp}
use Rattle.csub_text.specs.declared.operator.BinOp.{BinOp}
use Rattle.csub_types.specs.declared.kind.IntKind.{IntKind}
use Rattle.csub_types.specs.declared.kind.IntKind.TheVariants as kinds
use Rattle.csub_types.specs.Kinds.{promote, common}
use Rattle.csub_types.specs.Arithmetic.{unary_kind, binary_kind, operation_kind}
use Rattle.csub_tree.specs.declared.name.TypeName.{TypeName}
use Rattle.csub_tree.specs.declared.name.TypeName.TheVariants as names
use Rattle.csub_tree.specs.Expressions.{Expr, Kind, Exprs, Node, Number, Char, Text, Named, Paren, Unary, Cast, Step, Binary, And, Or}
use Rattle.csub_tree.specs.Expressions.{Choose, Assign, Call, Index, Member, NoExprs, MoreExprs}
use Rattle.csub_objects.specs.Types.{Name}
use Rattle.csub_scopes.specs.Scopes.{Scope, Declared, Meaning, global_object, local_object, enum_constant, a_function, untyped, find}
use Rattle.csub_rules.specs.Library.{LibraryName, getchar, putchar, printf, exit, eof, library_name}
use Rattle.csub_rules.specs.Sorts.{Sort, a_place, a_value, no_sort, is_number, is_number_place, kind_or_int, the_kind, value_if, sort_if, element_of, member_of}
use Rattle.csub_rules.specs.Callees.{Callee, no_function, user_function, getchar_function, putchar_function, printf_function, exit_function}
use Rattle.csub_rules.specs.Callees.{callee_of, fixed_params, take_all, are_numbers, result_sort}
use Rattle.csub_rules.specs.Formats.{literal_of, is_format}

-- a number is an `int` where it has no suffix and `int` has it, and else an `unsigned int` (C11 6.4.4.1p5)
abbrev pub number_literal_kind : ℕ → Bool → IntKind
number_literal_kind n suffix = if suffix || nat_lt 2147483647 n then kinds.Unsigned else kinds.Int

-- An object is a place, and an enum constant an `int` (C11 6.4.4.3p2). A function may only be called, and the rules on types
-- say nothing of an object without a type.
abbrev pub sort_of_meaning : Meaning → Sort
sort_of_meaning (global_object t) = a_place t
sort_of_meaning (local_object k t) = a_place t
sort_of_meaning (enum_constant v) = a_value kinds.Int
sort_of_meaning (a_function params result) = no_sort
sort_of_meaning untyped = no_sort

abbrev pub sort_of_declared : Option Declared → Sort
sort_of_declared None = no_sort
sort_of_declared (Some d) = sort_of_meaning d.means

abbrev pub sort_by : Option LibraryName → Option Declared → Sort
sort_by None d = sort_of_declared d
sort_by (Some getchar) d = no_sort
sort_by (Some putchar) d = no_sort
sort_by (Some printf) d = no_sort
sort_by (Some exit) d = no_sort
sort_by (Some eof) d = a_value kinds.Int

-- what a name is in an expression (C11 6.5.1p2)
abbrev pub sort_of_name : Scope → Name → Sort
sort_of_name scope name = sort_by (library_name name) (find name scope.names)

-- whether a name is an object, a parameter or an enum constant, as a name in an expression is (C11 6.5.1p2)
abbrev pub is_value : Meaning → Bool
is_value (global_object t) = true
is_value (local_object k t) = true
is_value (enum_constant v) = true
is_value (a_function params result) = false
is_value untyped = true

abbrev pub is_value_declared : Option Declared → Bool
is_value_declared None = false
is_value_declared (Some d) = is_value d.means

abbrev pub is_value_by : Option LibraryName → Option Declared → Bool
is_value_by None d = is_value_declared d
is_value_by (Some getchar) d = false
is_value_by (Some putchar) d = false
is_value_by (Some printf) d = false
is_value_by (Some exit) d = false
is_value_by (Some eof) d = true

abbrev pub is_value_name : Scope → Name → Bool
is_value_name scope name = is_value_by (library_name name) (find name scope.names)

-- the kind of a number's type (C11 6.7.2p2)
abbrev pub number_of : TypeName → Option IntKind
number_of names.Void = None
number_of names.Char = Some kinds.Char
number_of names.Int = Some kinds.Int
number_of names.Unsigned = Some kinds.Unsigned
number_of (names.Struct tag) = None

-- the kind that a cast names, `int` where it names none, which no cast of a source does (C11 6.5.4p2)
abbrev pub named_kind : TypeName → IntKind
named_kind t = kind_or_int (number_of t)

-- C11 6.5.3.3p1: the operand is promoted; p5: `!` gives an `int`
abbrev pub unary_sort : UnaryOp → Sort → Sort
unary_sort op a = value_if (is_number a) (unary_kind op (promote (the_kind a)))

-- C11 6.5.2.4 and 6.5.3.1: the kind of the place
abbrev pub step_sort : Sort → Sort
step_sort a = value_if (is_number_place a) (the_kind a)

-- C11 6.5.5 to 6.5.12; comparisons give an `int`
abbrev pub binary_sort : BinOp → Sort → Sort → Sort
binary_sort op a b = value_if (is_number a && is_number b) (binary_kind op (operation_kind op (the_kind a) (the_kind b)))

-- `&&` and `||` (C11 6.5.13p3 and 6.5.14p3)
abbrev pub logical_sort : Sort → Sort → Sort
logical_sort a b = value_if (is_number a && is_number b) kinds.Int

-- C11 6.5.15p5: the common kind of the later operands
abbrev pub choice_sort : Sort → Sort → Sort → Sort
choice_sort c a b = value_if (is_number c && (is_number a && is_number b)) (common (the_kind a) (the_kind b))

-- C11 6.5.16p3: the kind of the place
abbrev pub assign_sort : Sort → Sort → Sort
assign_sort a b = value_if (is_number_place a && is_number b) (the_kind a)

-- C11 6.5.2.1p2
abbrev pub index_sort : Sort → Sort → Sort
index_sort a i = sort_if (is_number i) (element_of a)

-- the first argument of `printf` is a format that asks for the others, which are numbers
abbrev pub prints : Exprs → List Sort → Bool
prints (MoreExprs e rest) (s ∷ ss) = is_format (literal_of e) rest && are_numbers ss
prints args ss = false

-- the arguments of a call suit what is called
abbrev pub suits : Callee → Exprs → List Sort → Bool
suits no_function args ss = false
suits (user_function params result) args ss = take_all params ss
suits getchar_function args ss = take_all (fixed_params getchar_function) ss
suits putchar_function args ss = take_all (fixed_params putchar_function) ss
suits printf_function args ss = prints args ss
suits exit_function args ss = take_all (fixed_params exit_function) ss

-- what a call gives (C11 6.5.2.2p5); `exit` gives nothing that an expression could use, and may only stand alone
abbrev pub given_by : Callee → Sort
given_by no_function = no_sort
given_by (user_function params result) = result_sort result
given_by getchar_function = a_value kinds.Int
given_by putchar_function = a_value kinds.Int
given_by printf_function = a_value kinds.Int
given_by exit_function = no_sort

abbrev pub call_sort : Callee → Exprs → List Sort → Sort
call_sort c args ss = sort_if (suits c args ss) (given_by c)

abbrev mutual
  pub sort_of : Scope → Expr → Sort
  sort_of scope (Node k s) = sort_of_kind scope k

  pub sort_of_kind : Scope → Kind → Sort
  sort_of_kind scope (Number n u) = a_value (number_literal_kind n u)
  sort_of_kind scope (Char b) = a_value kinds.Int
  sort_of_kind scope (Text t) = no_sort
  sort_of_kind scope (Named x) = sort_of_name scope x.text
  sort_of_kind scope (Paren e) = sort_of scope e
  sort_of_kind scope (Unary o e) = unary_sort o (sort_of scope e)
  sort_of_kind scope (Cast t e) = value_if (is_number (sort_of scope e)) (named_kind t)
  sort_of_kind scope (Step o e) = step_sort (sort_of scope e)
  sort_of_kind scope (Binary o a b) = binary_sort o (sort_of scope a) (sort_of scope b)
  sort_of_kind scope (And a b) = logical_sort (sort_of scope a) (sort_of scope b)
  sort_of_kind scope (Or a b) = logical_sort (sort_of scope a) (sort_of scope b)
  sort_of_kind scope (Choose c a b) = choice_sort (sort_of scope c) (sort_of scope a) (sort_of scope b)
  sort_of_kind scope (Assign o a b) = assign_sort (sort_of scope a) (sort_of scope b)
  sort_of_kind scope (Call f args) = call_sort (callee_of scope f.text) args (sorts_of scope args)
  sort_of_kind scope (Index a i) = index_sort (sort_of scope a) (sort_of scope i)
  sort_of_kind scope (Member a m) = member_of m.text (sort_of scope a)

  pub sorts_of : Scope → Exprs → List Sort
  sorts_of scope NoExprs = []
  sorts_of scope (MoreExprs e rest) = sort_of scope e ∷ sorts_of scope rest
