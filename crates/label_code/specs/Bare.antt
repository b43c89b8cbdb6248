-- Labels without the types that they write beside names. All of them have one type in the place of these.
use Rattle.std.specs.Prelude.{[], map}
use Rattle.std.specs.Option.{option_map}
use Rattle.csub_types.specs.declared.kind.IntKind.TheVariants.{Char}
use Rattle.csub_objects.specs.Types.{TypeTree, number_type}
use Rattle.csub_semantics.specs.Trees.{Variable, object, temporary, NamedPlace, variable, element_place, member_place, NamedExpr}
use Rattle.csub_semantics.specs.Trees.{constant}
use Rattle.csub_semantics.specs.Trees.{reading, unary_operation, conversion, stepping, operation, conjunction, disjunction, choice, assignment}
use Rattle.csub_semantics.specs.Trees.{update, input_byte, output_byte, formatted, NamedExprs, no_expr, more_exprs, NamedArg, value_argument, array_argument}
use Rattle.csub_semantics.specs.Labels.{LabelTree, enters, exits, evaluates, initialises, branches, switches, returns, jumps, halts, calls}
use Rattle.csub_semantics.specs.Labels.{AnswerTree, CallTree, InitTree, one_value, listed, InitTrees, no_init, more_inits}

abbrev pub no_type : TypeTree
no_type = number_type Char

abbrev pub bare_variable : Variable → Variable
bare_variable (object owner t) = object owner no_type
bare_variable (temporary n k) = temporary n k

abbrev mutual
  pub bare_place : NamedPlace → NamedPlace
  bare_place (variable v) = variable (bare_variable v)
  bare_place (element_place u p e) = element_place u (bare_place p) (bare_expr e)
  bare_place (member_place a p) = member_place a (bare_place p)

  pub bare_expr : NamedExpr → NamedExpr
  bare_expr (constant k v) = constant k v
  bare_expr (reading p) = reading (bare_place p)
  bare_expr (unary_operation op k a) = unary_operation op k (bare_expr a)
  bare_expr (conversion k a) = conversion k (bare_expr a)
  bare_expr (stepping op p) = stepping op (bare_place p)
  bare_expr (operation op k a b) = operation op k (bare_expr a) (bare_expr b)
  bare_expr (conjunction a b) = conjunction (bare_expr a) (bare_expr b)
  bare_expr (disjunction a b) = disjunction (bare_expr a) (bare_expr b)
  bare_expr (choice k c a b) = choice k (bare_expr c) (bare_expr a) (bare_expr b)
  bare_expr (assignment p e) = assignment (bare_place p) (bare_expr e)
  bare_expr (update p op k e) = update (bare_place p) op k (bare_expr e)
  bare_expr input_byte = input_byte
  bare_expr (output_byte e) = output_byte (bare_expr e)
  bare_expr (formatted pieces es) = formatted pieces (bare_exprs es)

  pub bare_exprs : NamedExprs → NamedExprs
  bare_exprs no_expr = no_expr
  bare_exprs (more_exprs e rest) = more_exprs (bare_expr e) (bare_exprs rest)

abbrev pub bare_arg : NamedArg → NamedArg
bare_arg (value_argument e) = value_argument (bare_expr e)
bare_arg (array_argument p) = array_argument (bare_place p)

abbrev mutual
  pub bare_init : InitTree → InitTree
  bare_init (one_value e) = one_value (bare_expr e)
  bare_init (listed xs) = listed (bare_inits xs)

  pub bare_inits : InitTrees → InitTrees
  bare_inits no_init = no_init
  bare_inits (more_inits x rest) = more_inits (bare_init x) (bare_inits rest)

abbrev pub bare_answer : AnswerTree → AnswerTree
bare_answer answer = record { kind = answer.kind; value = bare_expr answer.value }

-- a call without its parameters
abbrev pub bare_call : CallTree → CallTree
bare_call c = record { callee = c.callee; params = []; result = c.result; args = map bare_arg c.args; temp = c.temp }

abbrev pub bare_label : LabelTree → LabelTree
bare_label enters = enters
bare_label (exits rule) = exits rule
bare_label (evaluates e) = evaluates (bare_expr e)
bare_label (initialises owner t init) = initialises owner no_type (bare_init init)
bare_label (branches e) = branches (bare_expr e)
bare_label (switches e) = switches (bare_expr e)
bare_label (returns answer) = returns (option_map bare_answer answer)
bare_label jumps = jumps
bare_label (halts e) = halts (bare_expr e)
bare_label (calls c) = calls (bare_call c)
