-- What a label of a valid program has: each object and each temporary that it names has a place.
use Rattle.std.specs.Prelude.{ℕ, ◌+◌, ◌≡◌, ◌≤◌, List, [], ◌∷◌, All, Option, Some, None, IsTrue}
use Rattle.csub_types.specs.declared.kind.IntKind.TheVariants.{Int}
use Rattle.csub_semantics.specs.declared.label.EndRule.{EndRule}
use Rattle.csub_semantics.specs.declared.label.EndRule.TheVariants.{Nothing, Value, Main, Start}
use Rattle.csub_objects.specs.Types.{TypeTree, number_type, array_type, struct_type, loose_type, MemberTree, IsNumber, IsSized}
use Rattle.csub_validity.specs.Valid.{IsNumberAt, IsNumberPlace, RefersTo, IsParameter, HasOwnNames}
use Rattle.csub_validity.specs.Valid.{place_type, part_of, is_whole, most_values}
use Rattle.csub_semantics.specs.Trees.{NamedPlace, NamedExpr, NamedArg, Variable, variable, element_place, member_place, object, temporary}
use Rattle.csub_semantics.specs.Trees.{OwnerTree, global_owner, local_owner, value_argument, array_argument}
use Rattle.csub_semantics.specs.Trees.{constant, reading, unary_operation, conversion, stepping, operation, conjunction, disjunction, choice}
use Rattle.csub_semantics.specs.Trees.{assignment, update, input_byte, output_byte, formatted}
use Rattle.csub_semantics.specs.Trees.{NamedExprs, no_expr, more_exprs, expr_count}
use Rattle.csub_semantics.specs.Labels.{LabelTree, enters, exits, evaluates, initialises, branches, switches, returns, jumps, halts, calls}
use Rattle.csub_semantics.specs.Labels.{AnswerTree, CallTree, InitTree, one_value, listed, InitTrees, no_init, more_inits}
use Rattle.csub_semantics.specs.Syntax.{LocalTree, FunctionTree, ProgramTree}
use Rattle.csub_semantics.specs.Flows.{function_of}
use Rattle.csub_semantics.specs.Cells.{type_of}
use Rattle.csub_objects.specs.Paths.{inside_at}
use Rattle.csub_flat.specs.Frames.{plain, variable_place, globals_of}

-- what a variable has as its type: one that objects may have, or that of an array parameter with elements of such a type
abbrev pub MayStand : TypeTree → Type 0
MayStand (number_type k) = IsSized (number_type k)
MayStand (array_type t n) = IsSized (array_type t n)
MayStand (struct_type tag ms) = IsSized (struct_type tag ms)
MayStand (loose_type t) = IsSized t

-- what stands in a function, beside these globals
module _ (gs : List LocalTree) (f : FunctionTree) where
  -- a variable has a place, with the type that stands beside it
  abbrev pub HasPlace : Variable → Type 0
  HasPlace v = (s : ℕ) × (variable_place gs f v ≡ Some (inside_at s (plain (type_of v))))

  abbrev mutual
    -- so has each variable of a place
    pub FitsPlace : NamedPlace → Type 0
    FitsPlace (variable v) = HasPlace v × MayStand (type_of v)
    FitsPlace (element_place u p e) = FitsPlace p × FitsExpr e
    FitsPlace (member_place a p) = FitsPlace p

    -- and of an expression, where what is read or written is a number, and a `printf` has few values
    pub FitsExpr : NamedExpr → Type 0
    FitsExpr (constant k v) = Unit {0}
    FitsExpr (reading p) = IsNumberPlace p × FitsPlace p
    FitsExpr (unary_operation op k a) = FitsExpr a
    FitsExpr (conversion k a) = FitsExpr a
    FitsExpr (stepping op p) = IsNumberPlace p × FitsPlace p
    FitsExpr (operation op k a b) = FitsExpr a × FitsExpr b
    FitsExpr (conjunction a b) = FitsExpr a × FitsExpr b
    FitsExpr (disjunction a b) = FitsExpr a × FitsExpr b
    FitsExpr (choice k c a b) = FitsExpr c × FitsExpr a × FitsExpr b
    FitsExpr (assignment p e) = IsNumberPlace p × FitsPlace p × FitsExpr e
    FitsExpr (update p op k e) = IsNumberPlace p × FitsPlace p × FitsExpr e
    FitsExpr input_byte = Unit {0}
    FitsExpr (output_byte e) = FitsExpr e
    FitsExpr (formatted pieces es) = (expr_count es ≤ most_values) × FitExprs es

    pub FitExprs : NamedExprs → Type 0
    FitExprs no_expr = Unit {0}
    FitExprs (more_exprs e rest) = FitsExpr e × FitExprs rest

  -- an argument of a parameter: a number for a number, and for an array parameter an array with such elements
  abbrev pub FitsArg : MemberTree → NamedArg → Type 0
  FitsArg p (value_argument e) = IsNumber p.ctype × FitsExpr e
  FitsArg p (array_argument a) = RefersTo p.ctype (place_type a) × FitsPlace a

  -- the arguments of a call, one for each parameter
  abbrev pub FitArgs : List MemberTree → List NamedArg → Type 0
  FitArgs [] [] = Unit {0}
  FitArgs [] (a ∷ args) = ⊥
  FitArgs (p ∷ params) [] = ⊥
  FitArgs (p ∷ params) (a ∷ args) = FitsArg p a × FitArgs params args

  abbrev pub FitsAnswer : Option AnswerTree → Type 0
  FitsAnswer None = Unit {0}
  FitsAnswer (Some a) = FitsExpr a.value

  -- an initialiser of an object: a number for a number, and for an array or a struct a list, each entry for its part
  abbrev mutual
    pub FitsInit : Option TypeTree → InitTree → Type 0
    FitsInit o (one_value e) = IsNumberAt o × FitsExpr e
    FitsInit o (listed xs) = IsTrue (is_whole o) × FitInits o 0 xs

    pub FitInits : Option TypeTree → ℕ → InitTrees → Type 0
    FitInits o i no_init = Unit {0}
    FitInits o i (more_inits x rest) = FitsInit (part_of o i) x × FitInits o (i + 1) rest

  -- an initialised object is one of the frame; objects may have its type, and in no struct there do two members have one name
  abbrev pub IsBegun : OwnerTree → TypeTree → InitTree → Type 0
  IsBegun (global_owner a) t init = ⊥
  IsBegun (local_owner a n) t init =
      HasPlace (object (local_owner a n) t) × IsSized t × HasOwnNames t × FitsInit (Some t) init

  abbrev pub FitsTemp : Option ℕ → Type 0
  FitsTemp None = Unit {0}
  FitsTemp (Some n) = HasPlace (temporary n Int)

  -- only `#start` has the end rule that reads a temporary
  abbrev pub FitsRule : EndRule → Type 0
  FitsRule Nothing = Unit {0}
  FitsRule Value = Unit {0}
  FitsRule Main = Unit {0}
  FitsRule Start = HasPlace (temporary 1 Int)

  -- a parameter, the first object of its name, has a place, with a type that parameters may have
  abbrev pub HasParam : MemberTree → Type 0
  HasParam p = HasPlace (object (local_owner p.name 1) p.ctype) × IsParameter p.ctype

-- a call: the callee is defined with the parameters of the call, each of which has a place in its frame
pub record FitsCall (P : ProgramTree) (f : FunctionTree) (c : CallTree) : Type 0 where
  pub callee : FunctionTree
  pub defined : function_of P c.callee ≡ Some callee
  pub same : callee.params ≡ c.params
  pub params : All (HasParam (globals_of P) callee) c.params
  pub args : FitArgs (globals_of P) f c.params c.args
  pub temp : FitsTemp (globals_of P) f c.temp

-- the label of a point of a function
abbrev pub FitsLabel : ProgramTree → FunctionTree → LabelTree → Type 0
FitsLabel P f enters = Unit {0}
FitsLabel P f (exits rule) = FitsRule (globals_of P) f rule
FitsLabel P f (evaluates e) = FitsExpr (globals_of P) f e
FitsLabel P f (initialises owner t init) = IsBegun (globals_of P) f owner t init
FitsLabel P f (branches e) = FitsExpr (globals_of P) f e
FitsLabel P f (switches e) = FitsExpr (globals_of P) f e
FitsLabel P f (returns answer) = FitsAnswer (globals_of P) f answer
FitsLabel P f jumps = Unit {0}
FitsLabel P f (halts e) = FitsExpr (globals_of P) f e
FitsLabel P f (calls c) = FitsCall P f c
