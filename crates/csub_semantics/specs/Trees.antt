-- Resolved expressions as values: trees are equal exactly where the expressions are, node by node.
-- What stands at a variable, at an index and at a member is a parameter, so that one definition of evaluation serves
-- cells by names and cells by numbers.
use Rattle.std.specs.Prelude.{ℕ, ℤ, ◌+◌, List, [], ◌∷◌}
use Rattle.csub_text.specs.declared.operator.BinOp.{BinOp}
use Rattle.csub_text.specs.declared.operator.UnaryOp.{UnaryOp}
use Rattle.csub_text.specs.declared.operator.StepOp.{StepOp}
use Rattle.csub_types.specs.declared.kind.IntKind.{IntKind}
use Rattle.csub_objects.specs.Types.{Name, TypeTree}
use Rattle.csub_objects.specs.Meaning.{type_tree}
use Rattle.csub_semantics.specs.declared.expression.Owner.{Owner}
use Rattle.csub_semantics.specs.declared.expression.Owner.TheVariants.{Global, Local}
use Rattle.csub_semantics.specs.declared.expression.Piece.{Piece}
use Rattle.csub_semantics.specs.declared.expression.Place.{Place, Var, Index', Member'}
use Rattle.csub_semantics.specs.declared.expression.RArg.{RArg}
use Rattle.csub_semantics.specs.declared.expression.RArg.TheVariants.{Value, Array}
use Rattle.csub_semantics.specs.declared.expression.RExpr.{RExpr, Const, Read, Temp, Unary', Cast', Step, Binary', And', Or', Choose', Assign'}
use Rattle.csub_semantics.specs.declared.expression.RExpr.{Update', Getchar, Putchar', Printf', Row_of-RExpr, end_of-RExpr, more_of-RExpr}

mutual
  -- a place (an lvalue, C11 6.3.2.1): an object, an element of an array place by its index (6.5.2.1), or a member of a
  -- struct place (6.5.2.3)
  pub data PlaceTree (V I M : Type 0) : Type 0 where
    variable : V → PlaceTree V I M
    element_place : I → PlaceTree V I M → ExprTree V I M → PlaceTree V I M
    member_place : M → PlaceTree V I M → PlaceTree V I M

  pub data ExprTree (V I M : Type 0) : Type 0 where
    constant : IntKind → ℤ → ExprTree V I M
    reading : PlaceTree V I M → ExprTree V I M
    unary_operation : UnaryOp → IntKind → ExprTree V I M → ExprTree V I M
    conversion : IntKind → ExprTree V I M → ExprTree V I M
    stepping : StepOp → PlaceTree V I M → ExprTree V I M
    operation : BinOp → IntKind → ExprTree V I M → ExprTree V I M → ExprTree V I M
    conjunction : ExprTree V I M → ExprTree V I M → ExprTree V I M
    disjunction : ExprTree V I M → ExprTree V I M → ExprTree V I M
    choice : IntKind → ExprTree V I M → ExprTree V I M → ExprTree V I M → ExprTree V I M
    assignment : PlaceTree V I M → ExprTree V I M → ExprTree V I M
    update : PlaceTree V I M → BinOp → IntKind → ExprTree V I M → ExprTree V I M
    input_byte : ExprTree V I M
    output_byte : ExprTree V I M → ExprTree V I M
    formatted : List Piece → ExprTrees V I M → ExprTree V I M

  pub data ExprTrees (V I M : Type 0) : Type 0 where
    no_expr : ExprTrees V I M
    more_exprs : ExprTree V I M → ExprTrees V I M → ExprTrees V I M

module _ {V I M : Type 0} where
  abbrev pub exprs_of : List (ExprTree V I M) → ExprTrees V I M
  exprs_of [] = no_expr
  exprs_of (e ∷ es) = more_exprs e (exprs_of es)

  -- how many expressions a row has
  abbrev pub expr_count : ExprTrees V I M → ℕ
  expr_count no_expr = 0
  expr_count (more_exprs e rest) = expr_count rest + 1

-- an argument of a call: a number, or an array, to which its parameter refers (C11 6.5.2.2p4 and 6.7.6.3p7)
pub data ArgTree (V I M : Type 0) : Type 0 where
  value_argument : ExprTree V I M → ArgTree V I M
  array_argument : PlaceTree V I M → ArgTree V I M

-- whose object a name is: one of file scope, or the k-th of its name in its function (its parameters counted first)
pub data OwnerTree : Type 0 where
  global_owner : Name → OwnerTree
  local_owner : Name → ℕ → OwnerTree

-- an object with its whole declared type, or a temporary, which holds the value of a call
pub data Variable : Type 0 where
  object : OwnerTree → TypeTree → Variable
  temporary : ℕ → IntKind → Variable

-- trees as a program has them, with names at variables and members
abbrev pub NamedPlace : Type 0
NamedPlace = PlaceTree Variable (Unit {0}) Name

abbrev pub NamedExpr : Type 0
NamedExpr = ExprTree Variable (Unit {0}) Name

abbrev pub NamedExprs : Type 0
NamedExprs = ExprTrees Variable (Unit {0}) Name

abbrev pub NamedArg : Type 0
NamedArg = ArgTree Variable (Unit {0}) Name

abbrev pub owner_tree : Owner → OwnerTree
owner_tree (Global a) = global_owner a
owner_tree (Local a n) = local_owner a n

abbrev mutual
  pub place_tree : Place → NamedPlace
  place_tree (Var owner ctype) = variable (object (owner_tree owner) (type_tree ctype))
  place_tree (Index' p a q i) = element_place tt (place_tree a) (expr_tree i)
  place_tree (Member' p a name) = member_place name (place_tree a)

  pub expr_tree : RExpr → NamedExpr
  expr_tree (Const k v) = constant k v
  expr_tree (Read p) = reading (place_tree p)
  expr_tree (Temp n k) = reading (variable (temporary n k))
  expr_tree (Unary' op k p a) = unary_operation op k (expr_tree a)
  expr_tree (Cast' k p a) = conversion k (expr_tree a)
  expr_tree (Step op p) = stepping op (place_tree p)
  expr_tree (Binary' op k p a q b) = operation op k (expr_tree a) (expr_tree b)
  expr_tree (And' p a q b) = conjunction (expr_tree a) (expr_tree b)
  expr_tree (Or' p a q b) = disjunction (expr_tree a) (expr_tree b)
  expr_tree (Choose' k p c q a r b) = choice k (expr_tree c) (expr_tree a) (expr_tree b)
  expr_tree (Assign' p q e) = assignment (place_tree p) (expr_tree e)
  expr_tree (Update' p op k q e) = update (place_tree p) op k (expr_tree e)
  expr_tree Getchar = input_byte
  expr_tree (Putchar' p e) = output_byte (expr_tree e)
  expr_tree (Printf' pieces shape row) = formatted pieces.items (row_exprs row)

  pub row_exprs : {m : _} → Row_of-RExpr m → NamedExprs
  row_exprs end_of-RExpr = no_expr
  row_exprs (more_of-RExpr e rest) = more_exprs (expr_tree e) (row_exprs rest)

abbrev pub arg_tree : RArg → NamedArg
arg_tree (Value e) = value_argument (expr_tree e)
arg_tree (Array p) = array_argument (place_tree p)
