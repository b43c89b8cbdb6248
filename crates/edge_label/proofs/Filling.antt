-- A bare label, into which the types of a label are put back, is the label.
use Rattle.std.proofs.Common.{◌≡◌, ◌∙◌, List, [], ◌∷◌, ◌++◌, map, Option, Some, None, refl, ap}
use Rattle.std.specs.List.{flat_map}
use Rattle.std.specs.Option.{option_map}
use Rattle.std.proofs.lemmas.List.{map-append}
use Rattle.csub_objects.specs.Types.{TypeTree, MemberTree, members_of}
use Rattle.csub_semantics.specs.Trees.{Variable, object, temporary, NamedPlace, variable, element_place, member_place, NamedExpr}
use Rattle.csub_semantics.specs.Trees.{constant, reading, unary_operation, conversion, stepping, operation, conjunction, disjunction, choice, assignment}
use Rattle.csub_semantics.specs.Trees.{update, input_byte, output_byte, formatted, NamedExprs, no_expr, more_exprs, NamedArg, value_argument, array_argument}
use Rattle.csub_semantics.specs.Labels.{LabelTree, enters, exits, evaluates, initialises, branches, switches, returns, jumps, halts, calls}
use Rattle.csub_semantics.specs.Labels.{AnswerTree, CallTree, InitTree, one_value, listed, InitTrees, no_init, more_inits}
use Rattle.label_code.specs.Bare.{bare_variable, bare_place, bare_expr, bare_exprs, bare_arg, bare_init, bare_inits, bare_answer, bare_call, bare_label}
use Rattle.edge_label.specs.Fills.{Filler, list_of, fill_variable, fill_place, fill_expr, fill_exprs, fill_arg, fill_args, fill_init, fill_inits, fill_answer, fill_call, fill_label}
use Rattle.label_code.specs.Readers.{then}
use Rattle.label_code.specs.ReadBack.{then_back, then_append}
use Rattle.edge_label.specs.Tables.{use_type, types_of}
use Rattle.edge_label.specs.Uses.{TypeUse, parameters_type, variable_uses, place_uses, expr_uses, exprs_uses, arg_uses, init_uses, inits_uses, answer_uses}

-- what a filler and the one behind it give, where the types of the two stand one behind the other
then_filled : {A B : Type 0} (fill : Filler A) (next : A → Filler B) (a b : List TypeUse) (s : List TypeTree) {x : A} {given : B × List TypeTree}
    → ((t : List TypeTree) → fill (map use_type a ++ t) ≡ (x, t)) → next x (map use_type b ++ s) ≡ given
    → then fill next (map use_type (a ++ b) ++ s) ≡ given
then_filled fill next a b s first second =
    ap (λ l. then fill next (l ++ s)) (map-append use_type a b) ∙ then_append fill next (map use_type a) (map use_type b) s first second

members_listed : (ms : List MemberTree) → list_of (members_of ms) ≡ ms
members_listed [] = refl
members_listed (m ∷ ms) = ap (λ rest. m ∷ rest) (members_listed ms)

variable_filled : (v : Variable) (s : List TypeTree) → fill_variable (bare_variable v) (map use_type (variable_uses v) ++ s) ≡ (v, s)
variable_filled (object owner t) s = then_back _ _ refl refl
variable_filled (temporary n k) s = refl

mutual
  place_filled : (p : NamedPlace) (s : List TypeTree) → fill_place (bare_place p) (map use_type (place_uses p) ++ s) ≡ (p, s)
  place_filled (variable v) s = then_back _ _ (variable_filled v s) refl
  place_filled (element_place u p e) s = then_filled _ _ (place_uses p) (expr_uses e) s (place_filled p) (then_back _ _ (expr_filled e s) refl)
  place_filled (member_place a p) s = then_back _ _ (place_filled p s) refl

  expr_filled : (e : NamedExpr) (s : List TypeTree) → fill_expr (bare_expr e) (map use_type (expr_uses e) ++ s) ≡ (e, s)
  expr_filled (constant k v) s = refl
  expr_filled (reading p) s = then_back _ _ (place_filled p s) refl
  expr_filled (unary_operation op k a) s = then_back _ _ (expr_filled a s) refl
  expr_filled (conversion k a) s = then_back _ _ (expr_filled a s) refl
  expr_filled (stepping op p) s = then_back _ _ (place_filled p s) refl
  expr_filled (operation op k a b) s = then_filled _ _ (expr_uses a) (expr_uses b) s (expr_filled a) (then_back _ _ (expr_filled b s) refl)
  expr_filled (conjunction a b) s = then_filled _ _ (expr_uses a) (expr_uses b) s (expr_filled a) (then_back _ _ (expr_filled b s) refl)
  expr_filled (disjunction a b) s = then_filled _ _ (expr_uses a) (expr_uses b) s (expr_filled a) (then_back _ _ (expr_filled b s) refl)
  expr_filled (choice k c a b) s =
      then_filled _ _ (expr_uses c) (expr_uses a ++ expr_uses b) s (expr_filled c)
      (then_filled _ _ (expr_uses a) (expr_uses b) s (expr_filled a) (then_back _ _ (expr_filled b s) refl))
  expr_filled (assignment p e) s = then_filled _ _ (place_uses p) (expr_uses e) s (place_filled p) (then_back _ _ (expr_filled e s) refl)
  expr_filled (update p op k e) s = then_filled _ _ (place_uses p) (expr_uses e) s (place_filled p) (then_back _ _ (expr_filled e s) refl)
  expr_filled input_byte s = refl
  expr_filled (output_byte e) s = then_back _ _ (expr_filled e s) refl
  expr_filled (formatted pieces es) s = then_back _ _ (exprs_filled es s) refl

  exprs_filled : (es : NamedExprs) (s : List TypeTree) → fill_exprs (bare_exprs es) (map use_type (exprs_uses es) ++ s) ≡ (es, s)
  exprs_filled no_expr s = refl
  exprs_filled (more_exprs e rest) s = then_filled _ _ (expr_uses e) (exprs_uses rest) s (expr_filled e) (then_back _ _ (exprs_filled rest s) refl)

arg_filled : (a : NamedArg) (s : List TypeTree) → fill_arg (bare_arg a) (map use_type (arg_uses a) ++ s) ≡ (a, s)
arg_filled (value_argument e) s = then_back _ _ (expr_filled e s) refl
arg_filled (array_argument p) s = then_back _ _ (place_filled p s) refl

args_filled : (args : List NamedArg) (s : List TypeTree) → fill_args (map bare_arg args) (map use_type (flat_map arg_uses args) ++ s) ≡ (args, s)
args_filled [] s = refl
args_filled (a ∷ args) s = then_filled _ _ (arg_uses a) (flat_map arg_uses args) s (arg_filled a) (then_back _ _ (args_filled args s) refl)

mutual
  init_filled : (init : InitTree) (s : List TypeTree) → fill_init (bare_init init) (map use_type (init_uses init) ++ s) ≡ (init, s)
  init_filled (one_value e) s = then_back _ _ (expr_filled e s) refl
  init_filled (listed xs) s = then_back _ _ (inits_filled xs s) refl

  inits_filled : (xs : InitTrees) (s : List TypeTree) → fill_inits (bare_inits xs) (map use_type (inits_uses xs) ++ s) ≡ (xs, s)
  inits_filled no_init s = refl
  inits_filled (more_inits x rest) s = then_filled _ _ (init_uses x) (inits_uses rest) s (init_filled x) (then_back _ _ (inits_filled rest s) refl)

answer_filled : (answer : Option AnswerTree) (s : List TypeTree) → fill_answer (option_map bare_answer answer) (map use_type (answer_uses answer) ++ s) ≡ (answer, s)
answer_filled None s = refl
answer_filled (Some a) s = then_back _ _ (expr_filled a.value s) refl

call_filled : (c : CallTree) (s : List TypeTree) → fill_call (bare_call c) (parameters_type c.params ∷ (map use_type (flat_map arg_uses c.args) ++ s)) ≡ (c, s)
call_filled c s =
    then_back _ _ refl (then_back _ _ (args_filled c.args s)
    (ap (λ params. let d : CallTree = record { callee = c.callee; params = params; result = c.result; args = c.args; temp = c.temp } in (d, s)) (members_listed c.params)))

pub label_filled : (tree : LabelTree) (s : List TypeTree) → fill_label (bare_label tree) (types_of tree ++ s) ≡ (tree, s)
label_filled enters s = refl
label_filled (exits rule) s = refl
label_filled (evaluates e) s = then_back _ _ (expr_filled e s) refl
label_filled (initialises owner t init) s = then_back _ _ refl (then_back _ _ (init_filled init s) refl)
label_filled (branches e) s = then_back _ _ (expr_filled e s) refl
label_filled (switches e) s = then_back _ _ (expr_filled e s) refl
label_filled (returns answer) s = then_back _ _ (answer_filled answer s) refl
label_filled jumps s = refl
label_filled (halts e) s = then_back _ _ (expr_filled e s) refl
label_filled (calls c) s = then_back _ _ (call_filled c s) refl
