-- Constant expressions (C11 6.6), and the values of enum constants.
use Rattle.std.specs.Prelude.{ℤ, pos, negsuc, Bool, true, false, Option, Some, None, option_map, is_some, not, ◌&&◌, Result, Ok, Err, if◌then◌else◌}
use Rattle.std.specs.Option.{option_and_then}
use Rattle.std.specs.Ordering.{int_eq}
use Rattle.csub_text.specs.declared.operator.UnaryOp.{UnaryOp}
use Rattle.csub_text.specs.declared.operator.BinOp.{BinOp}
use Rattle.csub_types.specs.declared.kind.IntKind.{IntKind}
use Rattle.csub_types.specs.declared.trap.Trap.{Trap}
use Rattle.csub_types.specs.Kinds.{convert, promote, common}
use Rattle.csub_types.specs.Arithmetic.{unary, binary, operation_kind, right_operand}
use Rattle.csub_types.specs.Settled.{truth, fits_int}
use Rattle.csub_tree.specs.Expressions.{Expr, Kind, Node, Number, Char, Text, Named, Paren, Unary, Cast, Step, Binary, And, Or}
use Rattle.csub_tree.specs.Expressions.{Choose, Assign, Call, Index, Member}
use Rattle.csub_objects.specs.Types.{Name}
use Rattle.csub_scopes.specs.Scopes.{Scope, Declared, Meaning, global_object, local_object, enum_constant, a_function, untyped, find}
use Rattle.csub_rules.specs.Library.{LibraryName, getchar, putchar, printf, exit, eof, library_name}
use Rattle.csub_rules.specs.Sorts.{the_kind}
use Rattle.csub_rules.specs.ExprSorts.{sort_of, named_kind}

-- the value of a name that is an enum constant (C11 6.4.4.3), or of `EOF`, which is -1 here (7.21.1p3 leaves it open)
abbrev pub constant_of_meaning : Meaning → Option ℤ
constant_of_meaning (global_object t) = None
constant_of_meaning (local_object k t) = None
constant_of_meaning (enum_constant v) = Some v
constant_of_meaning (a_function params result) = None
constant_of_meaning untyped = None

abbrev pub constant_of_declared : Option Declared → Option ℤ
constant_of_declared None = None
constant_of_declared (Some d) = constant_of_meaning d.means

abbrev pub constant_by : Option LibraryName → Option Declared → Option ℤ
constant_by None d = constant_of_declared d
constant_by (Some getchar) d = None
constant_by (Some putchar) d = None
constant_by (Some printf) d = None
constant_by (Some exit) d = None
constant_by (Some eof) d = Some (negsuc 0)

abbrev pub constant_of_name : Scope → Name → Option ℤ
constant_of_name scope name = constant_by (library_name name) (find name scope.names)

-- A constant expression is made of constants, casts, `+ - ! ~`, binary operators, `&&`, `||` and `?:` alone (C11 6.6p3 and p6).
abbrev mutual
  pub is_constant : Scope → Expr → Bool
  is_constant scope (Node k s) = is_constant_kind scope k

  pub is_constant_kind : Scope → Kind → Bool
  is_constant_kind scope (Number n u) = true
  is_constant_kind scope (Char b) = true
  is_constant_kind scope (Text t) = false
  is_constant_kind scope (Named x) = is_some (constant_of_name scope x.text)
  is_constant_kind scope (Paren e) = is_constant scope e
  is_constant_kind scope (Unary o a) = is_constant scope a
  is_constant_kind scope (Cast t a) = is_constant scope a
  is_constant_kind scope (Step o a) = false
  is_constant_kind scope (Binary o a b) = is_constant scope a && is_constant scope b
  is_constant_kind scope (And a b) = is_constant scope a && is_constant scope b
  is_constant_kind scope (Or a b) = is_constant scope a && is_constant scope b
  is_constant_kind scope (Choose c a b) = is_constant scope c && (is_constant scope a && is_constant scope b)
  is_constant_kind scope (Assign o a b) = false
  is_constant_kind scope (Call f args) = false
  is_constant_kind scope (Index a i) = false
  is_constant_kind scope (Member a m) = false

-- the result of an operation, none where it traps
abbrev pub untrapped : Result ℤ Trap → Option ℤ
untrapped (Ok v) = Some v
untrapped (Err t) = None

abbrev pub unary_value : UnaryOp → IntKind → Option ℤ → Option ℤ
unary_value op k None = None
unary_value op k (Some a) = untrapped (unary op k (convert k a))

abbrev pub binary_value : BinOp → IntKind → Option ℤ → Option ℤ → Option ℤ
binary_value op k None b = None
binary_value op k (Some a) None = None
binary_value op k (Some a) (Some b) = untrapped (binary op k (convert k a) (right_operand op k b))

abbrev pub is_zero : ℤ → Bool
is_zero v = int_eq v (pos 0)

-- `&&` and `||` need the right operand only where the left one leaves them open (C11 6.5.13p4 and 6.5.14p4)
abbrev pub and_value : Option ℤ → Option ℤ → Option ℤ
and_value None b = None
and_value (Some a) b = if is_zero a then Some (pos 0) else option_map (λ v. truth (not (is_zero v))) b

abbrev pub or_value : Option ℤ → Option ℤ → Option ℤ
or_value None b = None
or_value (Some a) b = if is_zero a then option_map (λ v. truth (not (is_zero v))) b else Some (pos 1)

-- `?:` needs one of the later operands, converted to the kind of both (C11 6.5.15p4 and p5)
abbrev pub choice_value : IntKind → Option ℤ → Option ℤ → Option ℤ → Option ℤ
choice_value k None a b = None
choice_value k (Some c) a b = option_map (convert k) (if is_zero c then b else a)

-- what a constant expression gives, none where it traps; operands that aren't needed aren't evaluated
abbrev mutual
  pub value_of : Scope → Expr → Option ℤ
  value_of scope (Node k s) = value_of_kind scope k

  pub value_of_kind : Scope → Kind → Option ℤ
  value_of_kind scope (Number n u) = Some (pos n)
  value_of_kind scope (Char b) = Some (pos b)
  value_of_kind scope (Text t) = None
  value_of_kind scope (Named x) = constant_of_name scope x.text
  value_of_kind scope (Paren e) = value_of scope e
  value_of_kind scope (Unary o a) = unary_value o (promote (the_kind (sort_of scope a))) (value_of scope a)
  value_of_kind scope (Cast t a) = option_map (convert (named_kind t)) (value_of scope a)
  value_of_kind scope (Step o a) = None
  value_of_kind scope (Binary o a b) =
      binary_value o (operation_kind o (the_kind (sort_of scope a)) (the_kind (sort_of scope b))) (value_of scope a) (value_of scope b)
  value_of_kind scope (And a b) = and_value (value_of scope a) (value_of scope b)
  value_of_kind scope (Or a b) = or_value (value_of scope a) (value_of scope b)
  value_of_kind scope (Choose c a b) =
      choice_value (common (the_kind (sort_of scope a)) (the_kind (sort_of scope b))) (value_of scope c) (value_of scope a) (value_of scope b)
  value_of_kind scope (Assign o a b) = None
  value_of_kind scope (Call f args) = None
  value_of_kind scope (Index a i) = None
  value_of_kind scope (Member a m) = None

-- the value of a constant expression, and none where an expression is none or traps (C11 6.6p4)
abbrev pub constant : Scope → Expr → Option ℤ
constant scope e = if is_constant scope e then value_of scope e else None

-- The value of an enum constant that `int` has (C11 6.7.2.2p2): that of its expression, or else the one that is given, which
-- is one more than the one before it (p3).
abbrev pub in_int : ℤ → Option ℤ
in_int v = if fits_int v then Some v else None

abbrev pub enum_value : Scope → ℤ → Option Expr → Option ℤ
enum_value scope next None = in_int next
enum_value scope next (Some e) = option_and_then in_int (constant scope e)
