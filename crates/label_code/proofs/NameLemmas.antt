-- Sets of names.
use Rattle.std.proofs.Common.{◌≡◌, ℕ, ◌+◌, ◌<◌, List, [], ◌∷◌, ◌++◌, map, length, drop, get_or, Option, Some, None, refl, sym, ap, ap₂, ◌∙◌, nat_cmp, append-nil}
use Rattle.std.specs.List.{flat_map}
use Rattle.std.specs.Cmp.Lexicographic.{slice_cmp}
use Rattle.std.specs.declared.cmp.Ordering.{Ordering}
use Rattle.std.specs.declared.cmp.Ordering.TheVariants.{Less, Equal, Greater}
use Rattle.std.specs.Ordering.{match_ordering}
use Rattle.std.specs.BTreeSet.{insert_key}
use Rattle.std.proofs.lemmas.List.{drop_more}
use Rattle.std.proofs.lemmas.Grind.{flat_map-append}
use Rattle.csub_objects.specs.Types.{Name}
use Rattle.csub_semantics.specs.Trees.{Variable, object, temporary, NamedPlace, variable, element_place, member_place, NamedExpr}
use Rattle.csub_semantics.specs.Trees.{constant, reading, unary_operation, conversion, stepping, operation, conjunction, disjunction, choice, assignment}
use Rattle.csub_semantics.specs.Trees.{update, input_byte, output_byte, formatted, NamedExprs, no_expr, more_exprs, NamedArg, value_argument, array_argument}
use Rattle.csub_semantics.specs.Labels.{LabelTree, enters, exits, evaluates, initialises, branches, switches, returns, jumps, halts, calls}
use Rattle.csub_semantics.specs.Labels.{AnswerTree, InitTree, one_value, listed, InitTrees, no_init, more_inits}
use Rattle.csub_semantics.specs.Globals.{owner_names, variable_names, place_names, expr_names, exprs_names, arg_names, init_names, inits_names, answer_names, label_names, ordered}
use Rattle.label_code.specs.Uses.{TypeUse, variable_uses, place_uses, expr_uses, exprs_uses, arg_uses, init_uses, inits_uses, answer_uses, label_uses, use_names}

-- two lists of names, one after the other
pub ordered_append : (xs ys before : List Name) → ordered before (xs ++ ys) ≡ ordered (ordered before xs) ys
ordered_append [] ys before = refl
ordered_append (x ∷ xs) ys before = ordered_append xs ys (insert_key (slice_cmp nat_cmp) before x)

-- what keys stand for, where one is put to others
pub map_insert_key : {K A : Type 0} (view : K → A) (cmp : A → A → Ordering) (keys : List K) (k : K)
    → map view (insert_key (λ x y. cmp (view x) (view y)) keys k) ≡ insert_key cmp (map view keys) (view k)
map_insert_key {K} {A} view cmp [] k = refl
map_insert_key {K} {A} view cmp (x ∷ keys) k = by (cmp (view k) (view x)) (map_insert_key view cmp keys k) where
  by : (o : Ordering) → map view (insert_key (λ y z. cmp (view y) (view z)) keys k) ≡ insert_key cmp (map view keys) (view k)
      → map view (match_ordering o (k ∷ x ∷ keys) (x ∷ keys) (x ∷ insert_key (λ y z. cmp (view y) (view z)) keys k))
      ≡ match_ordering o (view k ∷ view x ∷ map view keys) (view x ∷ map view keys) (view x ∷ insert_key cmp (map view keys) (view k))
  by Less more = refl
  by Equal more = refl
  by Greater more = ap (λ ys. view x ∷ ys) more

-- the names that are there and those of what is left, where those of the next one are put to them
pub next_names : {X Y : Type 0} (tree : X → Y) (names : Y → List Name) (xs : List X) (x : X) (i : ℕ) (before set : List Name)
    → i < length xs → x ≡ get_or xs i x → set ≡ ordered before (names (tree x))
    → ordered set (flat_map names (map tree (drop (i + 1) xs))) ≡ ordered before (flat_map names (map tree (drop i xs)))
next_names tree names xs x i before set within is e =
    let rest = flat_map names (map tree (drop (i + 1) xs)) in
    ap (λ new. ordered new rest) e ∙ sym (ordered_append (names (tree x)) rest before)
    ∙ ap (λ ys. ordered before (flat_map names (map tree ys))) (ap (λ y. y ∷ drop (i + 1) xs) is ∙ sym (drop_more xs i x within))

-- names in two lists, one after the other
names_append : (us vs : List TypeUse) (xs ys : List Name) → flat_map use_names us ≡ xs → flat_map use_names vs ≡ ys → flat_map use_names (us ++ vs) ≡ xs ++ ys
names_append us vs xs ys first second = flat_map-append use_names us vs ∙ ap₂ (λ l m. l ++ m) first second

-- the globals that a label names are those among the names that have a type beside them
variable_globals : (v : Variable) → flat_map use_names (variable_uses v) ≡ variable_names v
variable_globals (object owner t) = append-nil (owner_names owner)
variable_globals (temporary n k) = refl

mutual
  place_globals : (p : NamedPlace) → flat_map use_names (place_uses p) ≡ place_names p
  place_globals (variable v) = variable_globals v
  place_globals (element_place u p e) = names_append (place_uses p) (expr_uses e) _ _ (place_globals p) (expr_globals e)
  place_globals (member_place a p) = place_globals p

  expr_globals : (e : NamedExpr) → flat_map use_names (expr_uses e) ≡ expr_names e
  expr_globals (constant k v) = refl
  expr_globals (reading p) = place_globals p
  expr_globals (unary_operation op k a) = expr_globals a
  expr_globals (conversion k a) = expr_globals a
  expr_globals (stepping op p) = place_globals p
  expr_globals (operation op k a b) = names_append (expr_uses a) (expr_uses b) _ _ (expr_globals a) (expr_globals b)
  expr_globals (conjunction a b) = names_append (expr_uses a) (expr_uses b) _ _ (expr_globals a) (expr_globals b)
  expr_globals (disjunction a b) = names_append (expr_uses a) (expr_uses b) _ _ (expr_globals a) (expr_globals b)
  expr_globals (choice k c a b) =
      names_append (expr_uses c) (expr_uses a ++ expr_uses b) _ _ (expr_globals c) (names_append (expr_uses a) (expr_uses b) _ _ (expr_globals a) (expr_globals b))
  expr_globals (assignment p e) = names_append (place_uses p) (expr_uses e) _ _ (place_globals p) (expr_globals e)
  expr_globals (update p op k e) = names_append (place_uses p) (expr_uses e) _ _ (place_globals p) (expr_globals e)
  expr_globals input_byte = refl
  expr_globals (output_byte e) = expr_globals e
  expr_globals (formatted pieces es) = exprs_globals es

  exprs_globals : (es : NamedExprs) → flat_map use_names (exprs_uses es) ≡ exprs_names es
  exprs_globals no_expr = refl
  exprs_globals (more_exprs e rest) = names_append (expr_uses e) (exprs_uses rest) _ _ (expr_globals e) (exprs_globals rest)

arg_globals : (a : NamedArg) → flat_map use_names (arg_uses a) ≡ arg_names a
arg_globals (value_argument e) = expr_globals e
arg_globals (array_argument p) = place_globals p

args_globals : (args : List NamedArg) → flat_map use_names (flat_map arg_uses args) ≡ flat_map arg_names args
args_globals [] = refl
args_globals (a ∷ args) = names_append (arg_uses a) (flat_map arg_uses args) _ _ (arg_globals a) (args_globals args)

mutual
  init_globals : (init : InitTree) → flat_map use_names (init_uses init) ≡ init_names init
  init_globals (one_value e) = expr_globals e
  init_globals (listed xs) = inits_globals xs

  inits_globals : (xs : InitTrees) → flat_map use_names (inits_uses xs) ≡ inits_names xs
  inits_globals no_init = refl
  inits_globals (more_inits x rest) = names_append (init_uses x) (inits_uses rest) _ _ (init_globals x) (inits_globals rest)

answer_globals : (answer : Option AnswerTree) → flat_map use_names (answer_uses answer) ≡ answer_names answer
answer_globals None = refl
answer_globals (Some a) = expr_globals a.value

pub label_globals : (tree : LabelTree) → flat_map use_names (label_uses tree) ≡ label_names tree
label_globals enters = refl
label_globals (exits rule) = refl
label_globals (evaluates e) = expr_globals e
label_globals (initialises owner t init) = ap (λ names. owner_names owner ++ names) (init_globals init)
label_globals (branches e) = expr_globals e
label_globals (switches e) = expr_globals e
label_globals (returns answer) = answer_globals answer
label_globals jumps = refl
label_globals (halts e) = expr_globals e
label_globals (calls c) = args_globals c.args
