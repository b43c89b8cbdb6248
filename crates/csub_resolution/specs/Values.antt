-- What expressions stand for: places, values, and the calls that are made before.
use Rattle.std.specs.Prelude.{ℕ, ◌+◌, pos, negsuc, List, [], ◌∷◌, ◌++◌, Option, Some, None, find, bytes_eq}
use Rattle.csub_text.specs.declared.operator.BinOp.{BinOp}
use Rattle.csub_types.specs.declared.kind.IntKind.{IntKind}
use Rattle.csub_types.specs.declared.kind.IntKind.TheVariants.{Int}
use Rattle.csub_types.specs.Kinds.{promote, common}
use Rattle.csub_tree.specs.declared.name.Name.{Name as NameAt}
use Rattle.csub_tree.specs.Expressions.{Expr, Kind, Exprs, Node, Number, Char, Text, Named, Paren, Unary, Cast, Step, Binary, And, Or}
use Rattle.csub_tree.specs.Expressions.{Choose, Assign, Call, Index, Member, NoExprs, MoreExprs}
use Rattle.csub_objects.specs.Types.{Name, TypeTree, number_type, array_type, struct_type, loose_type, MemberTree}
use Rattle.csub_semantics.specs.Trees.{global_owner, local_owner, object, temporary, NamedPlace, variable, element_place, member_place}
use Rattle.csub_semantics.specs.Trees.{NamedExpr, constant, reading, unary_operation, conversion, stepping, operation, conjunction, disjunction}
use Rattle.csub_semantics.specs.Trees.{choice, assignment, update, input_byte, output_byte, formatted, NamedExprs, no_expr, more_exprs}
use Rattle.csub_semantics.specs.Trees.{NamedArg, value_argument, array_argument}
use Rattle.csub_semantics.specs.Labels.{calls, CallTree}
use Rattle.csub_semantics.specs.Syntax.{CallAt}
use Rattle.csub_validity.specs.Valid.{temp_of}
use Rattle.csub_scopes.specs.Scopes.{Scope, Declared, Meaning, global_object, local_object, enum_constant, a_function, untyped}
use Rattle.csub_scopes.specs.Scopes as scopes
use Rattle.csub_rules.specs.Library.{LibraryName, getchar, putchar, printf, exit, eof, library_name}
use Rattle.csub_rules.specs.Sorts.{the_kind}
use Rattle.csub_rules.specs.ExprSorts.{sort_of, number_literal_kind, named_kind}
use Rattle.csub_types.specs.Arithmetic.{operation_kind}
use Rattle.csub_rules.specs.Callees.{Callee, no_function, user_function, getchar_function, putchar_function, printf_function, exit_function}
use Rattle.csub_rules.specs.Callees.{callee_of}
use Rattle.csub_resolution.specs.Printed.{format_of}

-- a function as it is defined: its name, and its parameters with their names
pub record Defined : Type 0 where
  pub name : Name
  pub params : List MemberTree

abbrev pub params_or : Option Defined → List MemberTree
params_or None = []
params_or (Some d) = d.params

-- the parameters of a function, as it is defined
abbrev pub params_in : List Defined → Name → List MemberTree
params_in defined f = params_or (find (λ (d : Defined). bytes_eq d.name f) defined)

-- the place and the value of what breaks a rule, which mean nothing
abbrev pub no_place : NamedPlace
no_place = variable (object (global_owner []) (number_type Int))

abbrev pub zero : NamedExpr
zero = constant Int (pos 0)

-- The object that a name means (C11 6.2.1p4). An object without a type stands where a rule is broken.
abbrev pub place_of_meaning : Name → Meaning → NamedPlace
place_of_meaning x (global_object t) = variable (object (global_owner x) t)
place_of_meaning x (local_object n t) = variable (object (local_owner x n) t)
place_of_meaning x (enum_constant v) = no_place
place_of_meaning x (a_function params result) = no_place
place_of_meaning x untyped = no_place

abbrev pub place_of_declared : Name → Option Declared → NamedPlace
place_of_declared x None = no_place
place_of_declared x (Some d) = place_of_meaning x d.means

-- the library's names are no objects
abbrev pub place_by : Name → Option LibraryName → Option Declared → NamedPlace
place_by x None d = place_of_declared x d
place_by x (Some l) d = no_place

abbrev pub place_of_name : Scope → Name → NamedPlace
place_of_name scope x = place_by x (library_name x) (scopes.find x scope.names)

-- what a name gives: the number in its object, or the value of its enum constant, an `int` (C11 6.4.4.3p2)
abbrev pub value_of_meaning : Name → Meaning → NamedExpr
value_of_meaning x (global_object t) = reading (place_of_meaning x (global_object t))
value_of_meaning x (local_object n t) = reading (place_of_meaning x (local_object n t))
value_of_meaning x (enum_constant v) = constant Int v
value_of_meaning x (a_function params result) = zero
value_of_meaning x untyped = zero

abbrev pub value_of_declared : Name → Option Declared → NamedExpr
value_of_declared x None = zero
value_of_declared x (Some d) = value_of_meaning x d.means

abbrev pub value_by : Name → Option LibraryName → Option Declared → NamedExpr
value_by x None d = value_of_declared x d
value_by x (Some getchar) d = zero
value_by x (Some putchar) d = zero
value_by x (Some printf) d = zero
value_by x (Some exit) d = zero
-- `EOF` is -1 here (C11 7.21.1p3 leaves it open)
value_by x (Some eof) d = constant Int (negsuc 0)

abbrev pub value_of_name : Scope → Name → NamedExpr
value_of_name scope x = value_by x (library_name x) (scopes.find x scope.names)

-- how many calls of the source's functions a call is
abbrev pub own_count : Callee → ℕ
own_count no_function = 0
own_count (user_function params result) = 1
own_count getchar_function = 0
own_count putchar_function = 0
own_count printf_function = 0
own_count exit_function = 0

-- how many calls of the source's functions an expression has
abbrev mutual
  pub count : Scope → Expr → ℕ
  count scope (Node k s) = count_kind scope k

  pub count_kind : Scope → Kind → ℕ
  count_kind scope (Number n u) = 0
  count_kind scope (Char b) = 0
  count_kind scope (Text t) = 0
  count_kind scope (Named x) = 0
  count_kind scope (Paren e) = count scope e
  count_kind scope (Unary o e) = count scope e
  count_kind scope (Cast t e) = count scope e
  count_kind scope (Step o e) = count scope e
  count_kind scope (Binary o a b) = count scope a + count scope b
  count_kind scope (And a b) = count scope a + count scope b
  count_kind scope (Or a b) = count scope a + count scope b
  count_kind scope (Choose c a b) = count scope c + (count scope a + count scope b)
  count_kind scope (Assign o a b) = count scope a + count scope b
  count_kind scope (Call f args) = count_all scope args + own_count (callee_of scope f.text)
  count_kind scope (Index a i) = count scope a + count scope i
  count_kind scope (Member a m) = count scope a

  pub count_all : Scope → Exprs → ℕ
  count_all scope NoExprs = 0
  count_all scope (MoreExprs e rest) = count scope e + count_all scope rest

-- an assignment, or a compound one in the kind of its operation (C11 6.5.16.2p3)
abbrev pub assigned : Option BinOp → IntKind → IntKind → NamedPlace → NamedExpr → NamedExpr
assigned None j k p e = assignment p e
assigned (Some op) j k p e = update p op (operation_kind op j k) e

-- the value of the n-th call of its part
abbrev pub result_value : Option IntKind → ℕ → NamedExpr
result_value None n = zero
result_value (Some kind) n = reading (variable (temporary n kind))

abbrev pub first_value : NamedExprs → NamedExpr
first_value no_expr = zero
first_value (more_exprs e rest) = e

abbrev pub later_values : NamedExprs → NamedExprs
later_values no_expr = no_expr
later_values (more_exprs e rest) = rest

-- What a call gives, by the values of its arguments: one of the source's functions has been called before, as the n-th call of
-- its part.
abbrev pub called_value : Callee → ℕ → Exprs → NamedExprs → NamedExpr
called_value no_function n args es = zero
called_value (user_function params result) n args es = result_value result n
called_value getchar_function n args es = input_byte
called_value putchar_function n args es = output_byte (first_value es)
called_value printf_function n args es = formatted (format_of args) (later_values es)
called_value exit_function n args es = zero

-- an expression before which its part makes k calls
abbrev mutual
  pub place : Scope → ℕ → Expr → NamedPlace
  place scope k (Node e s) = place_kind scope k e

  -- an element and a member of a place (C11 6.5.2.1p2 and 6.5.2.3p3); other places are objects
  pub place_kind : Scope → ℕ → Kind → NamedPlace
  place_kind scope k (Named x) = place_of_name scope x.text
  place_kind scope k (Paren e) = place scope k e
  place_kind scope k (Index a i) = element_place tt (place scope k a) (value scope (k + count scope a) i)
  place_kind scope k (Member a m) = member_place m.text (place scope k a)
  place_kind scope k (Number n u) = no_place
  place_kind scope k (Char b) = no_place
  place_kind scope k (Text t) = no_place
  place_kind scope k (Unary o e) = no_place
  place_kind scope k (Cast t e) = no_place
  place_kind scope k (Step o e) = no_place
  place_kind scope k (Binary o a b) = no_place
  place_kind scope k (And a b) = no_place
  place_kind scope k (Or a b) = no_place
  place_kind scope k (Choose c a b) = no_place
  place_kind scope k (Assign o a b) = no_place
  place_kind scope k (Call f args) = no_place

  pub value : Scope → ℕ → Expr → NamedExpr
  value scope k (Node e s) = value_kind scope k e

  pub value_kind : Scope → ℕ → Kind → NamedExpr
  value_kind scope k (Number n u) = constant (number_literal_kind n u) (pos n)
  -- a character is an `int` (C11 6.4.4.4p10)
  value_kind scope k (Char b) = constant Int (pos b)
  value_kind scope k (Text t) = zero
  value_kind scope k (Named x) = value_of_name scope x.text
  value_kind scope k (Paren e) = value scope k e
  value_kind scope k (Unary o e) = unary_operation o (promote (the_kind (sort_of scope e))) (value scope k e)
  value_kind scope k (Cast t e) = conversion (named_kind t) (value scope k e)
  value_kind scope k (Step o e) = stepping o (place scope k e)
  value_kind scope k (Binary o a b) =
      operation o (operation_kind o (the_kind (sort_of scope a)) (the_kind (sort_of scope b)))
      (value scope k a) (value scope (k + count scope a) b)
  value_kind scope k (And a b) = conjunction (value scope k a) (value scope (k + count scope a) b)
  value_kind scope k (Or a b) = disjunction (value scope k a) (value scope (k + count scope a) b)
  value_kind scope k (Choose c a b) =
      choice (common (the_kind (sort_of scope a)) (the_kind (sort_of scope b))) (value scope k c)
      (value scope (k + count scope c) a) (value scope (k + count scope c + count scope a) b)
  value_kind scope k (Assign o a b) =
      assigned o (the_kind (sort_of scope a)) (the_kind (sort_of scope b)) (place scope k a) (value scope (k + count scope a) b)
  value_kind scope k (Call f args) = called_value (callee_of scope f.text) (k + count_all scope args + 1) args (values scope k args)
  value_kind scope k (Index a i) = reading (element_place tt (place scope k a) (value scope (k + count scope a) i))
  value_kind scope k (Member a m) = reading (member_place m.text (place scope k a))

  pub values : Scope → ℕ → Exprs → NamedExprs
  values scope k NoExprs = no_expr
  values scope k (MoreExprs e rest) = more_exprs (value scope k e) (values scope (k + count scope e) rest)

-- an argument: a number, or the array to which an array parameter refers (C11 6.7.6.3p7)
abbrev pub argument : Scope → ℕ → TypeTree → Expr → NamedArg
argument scope k (number_type kind) e = value_argument (value scope k e)
argument scope k (array_type t n) e = value_argument (value scope k e)
argument scope k (struct_type tag ms) e = value_argument (value scope k e)
argument scope k (loose_type t) e = array_argument (place scope k e)

abbrev pub arguments : Scope → ℕ → List TypeTree → Exprs → List NamedArg
arguments scope k types NoExprs = []
arguments scope k [] (MoreExprs e rest) = []
arguments scope k (t ∷ types) (MoreExprs e rest) = argument scope k t e ∷ arguments scope (k + count scope e) types rest

module _ (defined : List Defined) where
  -- the n-th call of its part, before whose arguments k calls are made; its result goes into the temporary of its number
  abbrev pub call_of : Scope → NameAt → Exprs → ℕ → ℕ → List TypeTree → Option IntKind → CallTree
  call_of scope f args k n types result = record {
    callee = f.text;
    params = params_in defined f.text;
    result = result;
    args = arguments scope k types args;
    temp = temp_of result n;
  }

  -- a call of one of the source's functions is one of its part, named by the function's name
  abbrev pub own_call : Scope → NameAt → Exprs → ℕ → ℕ → Callee → List CallAt
  own_call scope f args k n no_function = []
  own_call scope f args k n (user_function types result) =
      record { label = calls (call_of scope f args k n types result); span = f.span } ∷ []
  own_call scope f args k n getchar_function = []
  own_call scope f args k n putchar_function = []
  own_call scope f args k n printf_function = []
  own_call scope f args k n exit_function = []

  -- the calls of an expression, the innermost and the leftmost first, before which its part makes k
  abbrev mutual
    pub calls_in : Scope → ℕ → Expr → List CallAt
    calls_in scope k (Node e s) = calls_in_kind scope k e

    pub calls_in_kind : Scope → ℕ → Kind → List CallAt
    calls_in_kind scope k (Number n u) = []
    calls_in_kind scope k (Char b) = []
    calls_in_kind scope k (Text t) = []
    calls_in_kind scope k (Named x) = []
    calls_in_kind scope k (Paren e) = calls_in scope k e
    calls_in_kind scope k (Unary o e) = calls_in scope k e
    calls_in_kind scope k (Cast t e) = calls_in scope k e
    calls_in_kind scope k (Step o e) = calls_in scope k e
    calls_in_kind scope k (Binary o a b) = calls_in scope k a ++ calls_in scope (k + count scope a) b
    calls_in_kind scope k (And a b) = calls_in scope k a ++ calls_in scope (k + count scope a) b
    calls_in_kind scope k (Or a b) = calls_in scope k a ++ calls_in scope (k + count scope a) b
    calls_in_kind scope k (Choose c a b) =
        calls_in scope k c ++ (calls_in scope (k + count scope c) a ++ calls_in scope (k + count scope c + count scope a) b)
    calls_in_kind scope k (Assign o a b) = calls_in scope k a ++ calls_in scope (k + count scope a) b
    calls_in_kind scope k (Call f args) =
        calls_in_all scope k args ++ own_call scope f args k (k + count_all scope args + 1) (callee_of scope f.text)
    calls_in_kind scope k (Index a i) = calls_in scope k a ++ calls_in scope (k + count scope a) i
    calls_in_kind scope k (Member a m) = calls_in scope k a

    pub calls_in_all : Scope → ℕ → Exprs → List CallAt
    calls_in_all scope k NoExprs = []
    calls_in_all scope k (MoreExprs e rest) = calls_in scope k e ++ calls_in_all scope (k + count scope e) rest
