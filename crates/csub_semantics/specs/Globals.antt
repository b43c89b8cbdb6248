-- The globals that a label names. They belong to the label, so that statements count as the same only where each global
-- that they name is declared with one type and one initial value in both programs.
use Rattle.std.specs.Prelude.{List, [], ◌∷◌, ◌++◌, Option, Some, None, find, bytes_eq}
use Rattle.std.specs.List.{flat_map}
use Rattle.std.specs.Ordering.{nat_cmp}
use Rattle.std.specs.Cmp.Lexicographic.{slice_cmp}
use Rattle.std.specs.BTreeSet.{insert_key}
use Rattle.csub_objects.specs.Types.{Name}
use Rattle.csub_semantics.specs.Types.{GlobalTree}
use Rattle.csub_semantics.specs.Trees.{OwnerTree, global_owner, local_owner, Variable, object, temporary}
use Rattle.csub_semantics.specs.Trees.{NamedPlace, variable, element_place, member_place, NamedExpr}
use Rattle.csub_semantics.specs.Trees.{constant}
use Rattle.csub_semantics.specs.Trees.{reading, unary_operation, conversion, stepping, operation, conjunction, disjunction, choice, assignment}
use Rattle.csub_semantics.specs.Trees.{update, input_byte, output_byte, formatted, NamedExprs, no_expr, more_exprs, NamedArg, value_argument, array_argument}
use Rattle.csub_semantics.specs.Labels.{LabelTree, enters, exits, evaluates, initialises, branches, switches, returns}
use Rattle.csub_semantics.specs.Labels.{jumps, halts, calls, AnswerTree, InitTree, one_value, listed, InitTrees, no_init, more_inits}

-- the names of the globals in a tree, from left to right
abbrev pub owner_names : OwnerTree → List Name
owner_names (global_owner a) = a ∷ []
owner_names (local_owner a n) = []

abbrev pub variable_names : Variable → List Name
variable_names (object owner t) = owner_names owner
variable_names (temporary n k) = []

abbrev mutual
  pub place_names : NamedPlace → List Name
  place_names (variable v) = variable_names v
  place_names (element_place u p e) = place_names p ++ expr_names e
  place_names (member_place a p) = place_names p

  pub expr_names : NamedExpr → List Name
  expr_names (constant k v) = []
  expr_names (reading p) = place_names p
  expr_names (unary_operation op k a) = expr_names a
  expr_names (conversion k a) = expr_names a
  expr_names (stepping op p) = place_names p
  expr_names (operation op k a b) = expr_names a ++ expr_names b
  expr_names (conjunction a b) = expr_names a ++ expr_names b
  expr_names (disjunction a b) = expr_names a ++ expr_names b
  expr_names (choice k c a b) = expr_names c ++ (expr_names a ++ expr_names b)
  expr_names (assignment p e) = place_names p ++ expr_names e
  expr_names (update p op k e) = place_names p ++ expr_names e
  expr_names input_byte = []
  expr_names (output_byte e) = expr_names e
  expr_names (formatted pieces es) = exprs_names es

  pub exprs_names : NamedExprs → List Name
  exprs_names no_expr = []
  exprs_names (more_exprs e rest) = expr_names e ++ exprs_names rest

abbrev pub arg_names : NamedArg → List Name
arg_names (value_argument e) = expr_names e
arg_names (array_argument p) = place_names p

abbrev mutual
  pub init_names : InitTree → List Name
  init_names (one_value e) = expr_names e
  init_names (listed xs) = inits_names xs

  pub inits_names : InitTrees → List Name
  inits_names no_init = []
  inits_names (more_inits x rest) = init_names x ++ inits_names rest

abbrev pub answer_names : Option AnswerTree → List Name
answer_names None = []
answer_names (Some a) = expr_names a.value

abbrev pub label_names : LabelTree → List Name
label_names enters = []
label_names (exits rule) = []
label_names (evaluates e) = expr_names e
label_names (initialises owner t init) = owner_names owner ++ init_names init
label_names (branches e) = expr_names e
label_names (switches e) = expr_names e
label_names (returns answer) = answer_names answer
label_names jumps = []
label_names (halts e) = expr_names e
label_names (calls c) = flat_map arg_names c.args

-- names in the order of their bytes, each once, when more of them are put to some that stand so
abbrev pub ordered : List Name → List Name → List Name
ordered before [] = before
ordered before (a ∷ more) = ordered (insert_key (slice_cmp nat_cmp) before a) more

-- the global of a name
abbrev pub global_of : List GlobalTree → Name → Option GlobalTree
global_of globals a = find (λ (g : GlobalTree). bytes_eq g.name a) globals

abbrev pub found_first : Option GlobalTree → List GlobalTree → List GlobalTree
found_first None rest = rest
found_first (Some g) rest = g ∷ rest

-- the globals of some names, in the order of the names
abbrev pub globals_of : List GlobalTree → List Name → List GlobalTree
globals_of globals [] = []
globals_of globals (a ∷ names) = found_first (global_of globals a) (globals_of globals names)

-- the globals that a label's tree names, each once, in the order of their names
abbrev pub named_globals : List GlobalTree → LabelTree → List GlobalTree
named_globals globals label = globals_of globals (ordered [] (label_names label))
