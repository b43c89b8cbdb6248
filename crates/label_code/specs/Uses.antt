-- The types that a label writes beside names: beside an object its type, and beside a callee those of its parameters.
use Rattle.std.specs.Prelude.{List, [], ◌∷◌, ◌++◌, map, Option, Some, None}
use Rattle.std.specs.List.{flat_map}
use Rattle.csub_objects.specs.Types.{Name, TypeTree, struct_type, MemberTree, members_of}
use Rattle.csub_objects.specs.Meaning.{type_tree, member_tree}
use Rattle.csub_semantics.specs.Trees.{OwnerTree, Variable, object, temporary, owner_tree}
use Rattle.csub_semantics.specs.Trees.{NamedPlace, variable, element_place, member_place, NamedExpr}
use Rattle.csub_semantics.specs.Trees.{constant}
use Rattle.csub_semantics.specs.Trees.{reading, unary_operation, conversion, stepping, operation, conjunction, disjunction, choice, assignment}
use Rattle.csub_semantics.specs.Trees.{update, input_byte, output_byte, formatted, NamedExprs, no_expr, more_exprs, NamedArg, value_argument, array_argument}
use Rattle.csub_semantics.specs.Labels.{LabelTree, enters, exits, evaluates, initialises, branches, switches, returns}
use Rattle.csub_semantics.specs.Labels.{jumps, halts, calls, AnswerTree, InitTree, one_value, listed, InitTrees, no_init, more_inits}
use Rattle.csub_semantics.specs.Globals.{owner_names}
use Rattle.label_code.specs.declared.uses.TypeUse.{TypeUse as CodeUse}
use Rattle.label_code.specs.declared.uses.TypeUse.TheVariants.{Object, Callee}

-- a name that has a type: an object, or a callee
pub data Named : Type 0 where
  an_object : OwnerTree → Named
  a_callee : Name → Named

-- a name with the type beside it
pub record TypeUse : Type 0 where
  pub named : Named
  pub ctype : TypeTree

-- the parameters of a function, as the members of a struct without a tag
abbrev pub parameters_type : List MemberTree → TypeTree
parameters_type params = struct_type [] (members_of params)

-- the names in a tree with their types, from left to right
abbrev pub variable_uses : Variable → List TypeUse
variable_uses (object owner t) = record { named = an_object owner; ctype = t } ∷ []
variable_uses (temporary n k) = []

abbrev mutual
  pub place_uses : NamedPlace → List TypeUse
  place_uses (variable v) = variable_uses v
  place_uses (element_place u p e) = place_uses p ++ expr_uses e
  place_uses (member_place a p) = place_uses p

  pub expr_uses : NamedExpr → List TypeUse
  expr_uses (constant k v) = []
  expr_uses (reading p) = place_uses p
  expr_uses (unary_operation op k a) = expr_uses a
  expr_uses (conversion k a) = expr_uses a
  expr_uses (stepping op p) = place_uses p
  expr_uses (operation op k a b) = expr_uses a ++ expr_uses b
  expr_uses (conjunction a b) = expr_uses a ++ expr_uses b
  expr_uses (disjunction a b) = expr_uses a ++ expr_uses b
  expr_uses (choice k c a b) = expr_uses c ++ (expr_uses a ++ expr_uses b)
  expr_uses (assignment p e) = place_uses p ++ expr_uses e
  expr_uses (update p op k e) = place_uses p ++ expr_uses e
  expr_uses input_byte = []
  expr_uses (output_byte e) = expr_uses e
  expr_uses (formatted pieces es) = exprs_uses es

  pub exprs_uses : NamedExprs → List TypeUse
  exprs_uses no_expr = []
  exprs_uses (more_exprs e rest) = expr_uses e ++ exprs_uses rest

abbrev pub arg_uses : NamedArg → List TypeUse
arg_uses (value_argument e) = expr_uses e
arg_uses (array_argument p) = place_uses p

abbrev mutual
  pub init_uses : InitTree → List TypeUse
  init_uses (one_value e) = expr_uses e
  init_uses (listed xs) = inits_uses xs

  pub inits_uses : InitTrees → List TypeUse
  inits_uses no_init = []
  inits_uses (more_inits x rest) = init_uses x ++ inits_uses rest

abbrev pub answer_uses : Option AnswerTree → List TypeUse
answer_uses None = []
answer_uses (Some a) = expr_uses a.value

abbrev pub label_uses : LabelTree → List TypeUse
label_uses enters = []
label_uses (exits rule) = []
label_uses (evaluates e) = expr_uses e
label_uses (initialises owner t init) = record { named = an_object owner; ctype = t } ∷ init_uses init
label_uses (branches e) = expr_uses e
label_uses (switches e) = expr_uses e
label_uses (returns answer) = answer_uses answer
label_uses jumps = []
label_uses (halts e) = expr_uses e
label_uses (calls c) = record { named = a_callee c.callee; ctype = parameters_type c.params } ∷ flat_map arg_uses c.args

-- the names of globals among these
abbrev pub named_names : Named → List Name
named_names (an_object owner) = owner_names owner
named_names (a_callee a) = []

abbrev pub use_names : TypeUse → List Name
use_names u = named_names u.named

-- the value of the code
abbrev pub use_tree : CodeUse → TypeUse
use_tree (Object owner t) = record { named = an_object (owner_tree owner.now); ctype = type_tree t.now }
use_tree (Callee c) = record { named = a_callee c.now.callee; ctype = parameters_type (map member_tree c.now.params.items) }
