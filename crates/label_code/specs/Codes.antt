-- The code of a label: a list of numbers from which the label can be read back. A tree begins with the number of its
-- constructor, a text and a list with their length; so no code is the beginning of another one.
use Rattle.std.specs.Prelude.{ℕ, ◌+◌, ℤ, pos, negsuc, List, [], ◌∷◌, ◌++◌, length, Option, Some, None}
use Rattle.std.specs.List.{flat_map}
use Rattle.csub_text.specs.declared.operator.UnaryOp.{UnaryOp}
use Rattle.csub_text.specs.declared.operator.UnaryOp.TheVariants.{Plus, Minus, Not, Flip}
use Rattle.csub_text.specs.declared.operator.StepOp.{StepOp}
use Rattle.csub_text.specs.declared.operator.StepOp.TheVariants.{PreUp, PreDown, PostUp, PostDown}
use Rattle.csub_text.specs.declared.operator.BinOp.{BinOp}
use Rattle.csub_text.specs.declared.operator.BinOp.TheVariants.{Mul, Div, Rem, Add, Sub, Shl, Shr, Lt, Gt, Le, Ge, Eq, Ne, BitAnd, BitXor, BitOr}
use Rattle.csub_types.specs.declared.kind.IntKind.{IntKind}
use Rattle.csub_types.specs.declared.kind.IntKind.TheVariants.{Char, Int, Unsigned}
use Rattle.csub_semantics.specs.declared.expression.Piece.{Piece}
use Rattle.csub_semantics.specs.declared.expression.Piece.TheVariants.{Byte, Signed, Plain, Letter}
use Rattle.csub_semantics.specs.declared.label.EndRule.{EndRule}
use Rattle.csub_semantics.specs.declared.label.EndRule.TheVariants as rule
use Rattle.csub_objects.specs.Types.{Name, TypeTree, number_type, array_type, struct_type, loose_type}
use Rattle.csub_objects.specs.Types.{MemberTree, MemberTrees, no_member, more_members}
use Rattle.csub_semantics.specs.Types.{GlobalTree}
use Rattle.csub_semantics.specs.Trees.{variable, element_place, member_place, constant, reading, unary_operation, conversion, stepping, operation}
use Rattle.csub_semantics.specs.Trees.{conjunction, disjunction, choice, assignment, update, input_byte, output_byte, value_argument, array_argument}
use Rattle.csub_semantics.specs.Trees.{formatted, NamedExprs, no_expr, more_exprs}
use Rattle.csub_semantics.specs.Trees.{OwnerTree, global_owner, local_owner, Variable, object, temporary, NamedPlace, NamedExpr, NamedArg}
use Rattle.csub_semantics.specs.Labels.{AnswerTree, CallTree, InitTree, one_value, listed, InitTrees, no_init, more_inits}
use Rattle.csub_semantics.specs.Labels.{LabelTree, enters, exits, evaluates, initialises, branches, switches, returns, jumps, halts, calls, PointLabel}

abbrev pub number_code : ℕ → List ℕ
number_code n = n ∷ []

-- the sign, 0 for none, and how far the number is from 0 or from -1
abbrev pub integer_code : ℤ → List ℕ
integer_code (pos n) = 0 ∷ n ∷ []
integer_code (negsuc n) = 1 ∷ n ∷ []

abbrev pub name_code : Name → List ℕ
name_code bytes = length bytes ∷ bytes

abbrev pub list_code : {A : Type 0} → (A → List ℕ) → List A → List ℕ
list_code code xs = length xs ∷ flat_map code xs

abbrev pub option_code : {A : Type 0} → (A → List ℕ) → Option A → List ℕ
option_code code None = 0 ∷ []
option_code code (Some x) = 1 ∷ code x

abbrev pub kind_number : IntKind → ℕ
kind_number Char = 0
kind_number Int = 1
kind_number Unsigned = 2

abbrev pub kind_code : IntKind → List ℕ
kind_code kind = kind_number kind ∷ []

abbrev pub unary_number : UnaryOp → ℕ
unary_number Plus = 0
unary_number Minus = 1
unary_number Not = 2
unary_number Flip = 3

abbrev pub step_number : StepOp → ℕ
step_number PreUp = 0
step_number PreDown = 1
step_number PostUp = 2
step_number PostDown = 3

abbrev pub operator_number : BinOp → ℕ
operator_number Mul = 0
operator_number Div = 1
operator_number Rem = 2
operator_number Add = 3
operator_number Sub = 4
operator_number Shl = 5
operator_number Shr = 6
operator_number Lt = 7
operator_number Gt = 8
operator_number Le = 9
operator_number Ge = 10
operator_number Eq = 11
operator_number Ne = 12
operator_number BitAnd = 13
operator_number BitXor = 14
operator_number BitOr = 15

-- a piece of a format: first the conversions, then the bytes
abbrev pub piece_number : Piece → ℕ
piece_number Signed = 0
piece_number Plain = 1
piece_number Letter = 2
piece_number (Byte b) = b + 3

abbrev pub piece_code : Piece → List ℕ
piece_code piece = piece_number piece ∷ []

abbrev pub rule_number : EndRule → ℕ
rule_number rule.Nothing = 0
rule_number rule.Value = 1
rule_number rule.Main = 2
rule_number rule.Start = 3

-- a whole type, with the tags and the members of the structs in it
abbrev mutual
  pub type_code : TypeTree → List ℕ
  type_code (number_type kind) = 0 ∷ kind_code kind
  type_code (array_type element n) = 1 ∷ n ∷ type_code element
  type_code (struct_type tag members) = 2 ∷ (name_code tag ++ members_code members)
  type_code (loose_type element) = 3 ∷ type_code element

  pub members_code : MemberTrees → List ℕ
  members_code no_member = 0 ∷ []
  members_code (more_members name ctype rest) = 1 ∷ (name_code name ++ (type_code ctype ++ members_code rest))

abbrev pub member_code : MemberTree → List ℕ
member_code member = name_code member.name ++ type_code member.ctype

abbrev pub owner_code : OwnerTree → List ℕ
owner_code (global_owner name) = 0 ∷ name_code name
owner_code (local_owner name k) = 1 ∷ k ∷ name_code name

abbrev pub variable_code : Variable → List ℕ
variable_code (object owner ctype) = 0 ∷ (owner_code owner ++ type_code ctype)
variable_code (temporary number kind) = 1 ∷ number ∷ kind_code kind

abbrev mutual
  pub place_code : NamedPlace → List ℕ
  place_code (variable v) = 0 ∷ variable_code v
  place_code (element_place u p e) = 1 ∷ (place_code p ++ expr_code e)
  place_code (member_place name p) = 2 ∷ (name_code name ++ place_code p)

  pub expr_code : NamedExpr → List ℕ
  expr_code (constant kind value) = 0 ∷ kind_number kind ∷ integer_code value
  expr_code (reading place) = 1 ∷ place_code place
  expr_code (operation op kind a b) = 2 ∷ operator_number op ∷ kind_number kind ∷ (expr_code a ++ expr_code b)
  expr_code input_byte = 3 ∷ []
  expr_code (output_byte e) = 4 ∷ expr_code e
  expr_code (unary_operation op kind a) = 5 ∷ unary_number op ∷ kind_number kind ∷ expr_code a
  expr_code (conversion kind a) = 6 ∷ kind_number kind ∷ expr_code a
  expr_code (conjunction a b) = 7 ∷ (expr_code a ++ expr_code b)
  expr_code (disjunction a b) = 8 ∷ (expr_code a ++ expr_code b)
  expr_code (choice kind c a b) = 9 ∷ kind_number kind ∷ (expr_code c ++ (expr_code a ++ expr_code b))
  expr_code (stepping op place) = 10 ∷ step_number op ∷ place_code place
  expr_code (assignment place e) = 11 ∷ (place_code place ++ expr_code e)
  expr_code (update place op kind e) = 12 ∷ operator_number op ∷ kind_number kind ∷ (place_code place ++ expr_code e)
  expr_code (formatted pieces es) = 13 ∷ (list_code piece_code pieces ++ exprs_code es)

  pub exprs_code : NamedExprs → List ℕ
  exprs_code no_expr = 0 ∷ []
  exprs_code (more_exprs e rest) = 1 ∷ (expr_code e ++ exprs_code rest)

abbrev pub arg_code : NamedArg → List ℕ
arg_code (value_argument e) = 0 ∷ expr_code e
arg_code (array_argument p) = 1 ∷ place_code p

abbrev pub answer_code : AnswerTree → List ℕ
answer_code answer = kind_number answer.kind ∷ expr_code answer.value

abbrev pub call_code : CallTree → List ℕ
call_code call =
    name_code call.callee ++ (list_code member_code call.params ++ (option_code kind_code call.result
    ++ (list_code arg_code call.args ++ option_code number_code call.temp)))

abbrev mutual
  pub init_code : InitTree → List ℕ
  init_code (one_value e) = 0 ∷ expr_code e
  init_code (listed xs) = 1 ∷ inits_code xs

  pub inits_code : InitTrees → List ℕ
  inits_code no_init = 0 ∷ []
  inits_code (more_inits x rest) = 1 ∷ (init_code x ++ inits_code rest)

abbrev pub label_code : LabelTree → List ℕ
label_code enters = 0 ∷ []
label_code (exits rule) = 1 ∷ rule_number rule ∷ []
label_code (evaluates e) = 2 ∷ expr_code e
label_code (branches e) = 3 ∷ expr_code e
label_code (returns answer) = 4 ∷ option_code answer_code answer
label_code (calls call) = 5 ∷ call_code call
label_code (initialises owner ctype init) = 6 ∷ (owner_code owner ++ (type_code ctype ++ init_code init))
label_code (switches e) = 7 ∷ expr_code e
label_code jumps = 8 ∷ []
label_code (halts e) = 9 ∷ expr_code e

abbrev pub global_code : GlobalTree → List ℕ
global_code global = name_code global.name ++ (type_code global.ctype ++ list_code integer_code global.initial)

-- the code of a whole label
abbrev pub point_code : PointLabel → List ℕ
point_code label = label_code label.tree ++ list_code global_code label.globals

-- a number in the place of a struct, or of a whole type: it stands as the tag of a struct without members
abbrev pub numbered : ℕ → TypeTree
numbered s = struct_type (s ∷ []) no_member

-- a global with another type in the type's place
abbrev pub with_type : GlobalTree → TypeTree → GlobalTree
with_type g t = record { name = g.name; ctype = t; initial = g.initial }
