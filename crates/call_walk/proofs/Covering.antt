-- A label of a valid program lists each global that its tree names, so that two programs with that label declare these
-- alike.
use Rattle.std.proofs.Common.{◌≡◌, inl, ℕ, ◌+◌, List, [], ◌∷◌, ◌++◌, ◌||◌, Bool, true, false, Option, Some, None, is_some, All, refl, sym, subst, subst₂, IsTrue, bytes_eq}
use Rattle.std.specs.List.{AllByRecursion, list_any, flat_map}
use Rattle.std.specs.Option.{option_map}
use Rattle.std.specs.Ordering.{int_eq}
use Rattle.std.specs.Cmp.Lexicographic.{pointwise}
use Rattle.std.proofs.lemmas.Bool.{and_from}
use Rattle.std.proofs.lemmas.List.Elements.{All-nil, All-cons, All-head, All-tail, recursion_from_All}
use Rattle.std.specs.Cmp.Rules.{signed_items}
use Rattle.csub_validity.specs.declared.role.Role.{Role}
use Rattle.csub_validity.specs.declared.role.Role.TheVariants.{Whole, Test, Switch, Effect}
use Rattle.csub_objects.specs.Types.{Name, TypeTree, type_eq, MemberTree}
use Rattle.csub_semantics.specs.Types.{GlobalTree}
use Rattle.csub_semantics.specs.Globals.{owner_names, variable_names, place_names, expr_names, exprs_names, arg_names, init_names, inits_names, label_names, global_of, named_globals}
use Rattle.csub_semantics.specs.Trees.{OwnerTree, global_owner, local_owner, Variable, object, temporary, NamedPlace, variable, element_place, member_place, NamedExpr, constant, reading, unary_operation, conversion, stepping, operation, conjunction, disjunction, choice, assignment, update, input_byte, output_byte, formatted, NamedExprs, no_expr, more_exprs, NamedArg, value_argument, array_argument}
use Rattle.csub_semantics.specs.Labels.{LabelTree, enters, exits, evaluates, initialises, branches, switches, returns, jumps, halts, calls, PointLabel, CallTree, AnswerTree, InitTree, one_value, listed as listed_init, InitTrees, no_init, more_inits}
use Rattle.csub_semantics.specs.Syntax.{LocalTree, FunctionTree, ProgramTree}
use Rattle.csub_semantics.specs.Points.{PointTree}
use Rattle.csub_semantics.specs.Flows.{Flow, flow_of}
use Rattle.csub_semantics.specs.Cells.{Root, global_root, local_root, temp_root}
use Rattle.csub_validity.specs.Valid.{Scope, scope_of, IsObject, IsVariable, IsPlace, IsExpr, AreExprs, part_of, AreArgs, IsCall, IsAnswer, IsInit, AreInits, IsInitialised, IsLast, IsValid}
use Rattle.program_laws.proofs.LawsFlows.{labelled_at}
use Rattle.program_laws.proofs.LawsNames.{same_name}
use Rattle.program_laws.proofs.LawsGlobals.{Among, among_left, among_right, named_is_listed, type_itself}
use Rattle.program_laws.proofs.LawsNodes.{MayStand}
use Rattle.call_walk.specs.Shared.{declared_alike, shared}
use Rattle.call_walk.specs.Locality.{CoversOwner, CoversVariable, CoversPlace, CoversExpr, CoversExprs, CoversArg, CoversAnswer, CoversInit, CoversInits, CoversLabel}
use Rattle.call_walk.proofs.EveryLabel.{every_label}

-- the roots of all frames, and those of the globals of a list
abbrev pub listed : List GlobalTree → Root → Bool
listed gs (global_root a) = list_any (λ g. bytes_eq g.name a) gs
listed gs (local_root h a n) = true
listed gs (temp_root h n) = true

-- a set that has the globals of a tree which another has covers the tree as well
module _ (S T : Root → Bool) where
  abbrev More : List Name → Type 0
  More names = (a : Name) → Among names a → IsTrue (S (global_root a)) → IsTrue (T (global_root a))

  first_more : (names others : List Name) → More (names ++ others) → More names
  first_more names others more a h = more a (among_left names others a h)

  later_more : (names others : List Name) → More (names ++ others) → More others
  later_more names others more a h = more a (among_right names others a h)

  more_owner : (owner : OwnerTree) → More (owner_names owner) → CoversOwner S owner → CoversOwner T owner
  more_owner (global_owner a) more h = more a (inl refl) h
  more_owner (local_owner a n) more h = tt

  more_variable : (v : Variable) → More (variable_names v) → CoversVariable S v → CoversVariable T v
  more_variable (object owner t) more h = more_owner owner more h
  more_variable (temporary n k) more h = tt

  mutual
    more_place : (p : NamedPlace) → More (place_names p) → CoversPlace S p → CoversPlace T p
    more_place (variable v) more h = more_variable v more h
    more_place (element_place u p e) more h = (more_place p (first_more (place_names p) (expr_names e) more) h.0, more_expr e (later_more (place_names p) (expr_names e) more) h.1)
    more_place (member_place a p) more h = more_place p more h

    more_expr : (e : NamedExpr) → More (expr_names e) → CoversExpr S e → CoversExpr T e
    more_expr (constant k v) more h = tt
    more_expr (reading p) more h = more_place p more h
    more_expr (unary_operation op k a) more h = more_expr a more h
    more_expr (conversion k a) more h = more_expr a more h
    more_expr (stepping op p) more h = more_place p more h
    more_expr (operation op k a b) more h = (more_expr a (first_more (expr_names a) (expr_names b) more) h.0, more_expr b (later_more (expr_names a) (expr_names b) more) h.1)
    more_expr (conjunction a b) more h = (more_expr a (first_more (expr_names a) (expr_names b) more) h.0, more_expr b (later_more (expr_names a) (expr_names b) more) h.1)
    more_expr (disjunction a b) more h = (more_expr a (first_more (expr_names a) (expr_names b) more) h.0, more_expr b (later_more (expr_names a) (expr_names b) more) h.1)
    more_expr (choice k c a b) more h =
        let later = later_more (expr_names c) (expr_names a ++ expr_names b) more in
        (more_expr c (first_more (expr_names c) (expr_names a ++ expr_names b) more) h.0, more_expr a (first_more (expr_names a) (expr_names b) later) h.1, more_expr b (later_more (expr_names a) (expr_names b) later) h.2)
    more_expr (assignment p e) more h = (more_place p (first_more (place_names p) (expr_names e) more) h.0, more_expr e (later_more (place_names p) (expr_names e) more) h.1)
    more_expr (update p op k e) more h = (more_place p (first_more (place_names p) (expr_names e) more) h.0, more_expr e (later_more (place_names p) (expr_names e) more) h.1)
    more_expr input_byte more h = tt
    more_expr (output_byte e) more h = more_expr e more h
    more_expr (formatted pieces es) more h = more_exprs_of es more h

    more_exprs_of : (es : NamedExprs) → More (exprs_names es) → CoversExprs S es → CoversExprs T es
    more_exprs_of no_expr more h = tt
    more_exprs_of (more_exprs e rest) more h = (more_expr e (first_more (expr_names e) (exprs_names rest) more) h.0, more_exprs_of rest (later_more (expr_names e) (exprs_names rest) more) h.1)

  more_arg : (a : NamedArg) → More (arg_names a) → CoversArg S a → CoversArg T a
  more_arg (value_argument e) more h = more_expr e more h
  more_arg (array_argument p) more h = more_place p more h

  more_args : (args : List NamedArg) → More (flat_map arg_names args) → All (CoversArg S) args → All (CoversArg T) args
  more_args [] more h = All-nil (CoversArg T)
  more_args (a ∷ args) more h =
      All-cons (CoversArg T) a args (more_arg a (first_more (arg_names a) (flat_map arg_names args) more) (All-head (CoversArg S) a args h))
      (more_args args (later_more (arg_names a) (flat_map arg_names args) more) (All-tail (CoversArg S) a args h))

  mutual
    more_init : (init : InitTree) → More (init_names init) → CoversInit S init → CoversInit T init
    more_init (one_value e) more h = more_expr e more h
    more_init (listed_init xs) more h = more_inits_of xs more h

    more_inits_of : (xs : InitTrees) → More (inits_names xs) → CoversInits S xs → CoversInits T xs
    more_inits_of no_init more h = tt
    more_inits_of (more_inits x rest) more h = (more_init x (first_more (init_names x) (inits_names rest) more) h.0, more_inits_of rest (later_more (init_names x) (inits_names rest) more) h.1)

  pub covers_more : (l : LabelTree) → More (label_names l) → CoversLabel S l → CoversLabel T l
  covers_more enters more h = tt
  covers_more (exits rule) more h = tt
  covers_more (evaluates e) more h = more_expr e more h
  covers_more (initialises owner t init) more h = (more_owner owner (first_more (owner_names owner) (init_names init) more) h.0, more_init init (later_more (owner_names owner) (init_names init) more) h.1)
  covers_more (branches e) more h = more_expr e more h
  covers_more (switches e) more h = more_expr e more h
  covers_more (returns None) more h = tt
  covers_more (returns (Some a)) more h = more_expr a.value more h
  covers_more jumps more h = tt
  covers_more (halts e) more h = more_expr e more h
  covers_more (calls c) more h = more_args c.args more h

-- the roots of all frames, and those of the globals that are declared
abbrev declared : List GlobalTree → Root → Bool
declared gs (global_root a) = is_some (global_of gs a)
declared gs (local_root h a n) = true
declared gs (temp_root h n) = true

has_type : (o : Option GlobalTree) (t : TypeTree) → option_map (λ (g : GlobalTree). g.ctype) o ≡ Some t → IsTrue (is_some o)
has_type None t e = cc
has_type (Some g) t e = refl

-- what validity allows names declared globals alone
module _ (gs : List GlobalTree) (sc : Scope) (same : sc.globals ≡ gs) (k : ℕ) where
  abbrev S : Root → Bool
  S = declared gs

  valid_object : (owner : OwnerTree) (t : TypeTree) → IsObject sc.globals sc.objects owner t → CoversOwner S owner
  valid_object (global_owner a) t h = subst (λ us. IsTrue (is_some (global_of us a))) same (has_type (global_of sc.globals a) t h)
  valid_object (local_owner a n) t h = tt

  valid_local : (objects : List LocalTree) (owner : OwnerTree) (t : TypeTree) → IsObject [] objects owner t → CoversOwner S owner
  valid_local objects (global_owner a) t h = cc
  valid_local objects (local_owner a n) t h = tt

  valid_variable : (v : Variable) → IsVariable sc k v → CoversVariable S v
  valid_variable (object owner t) h = valid_object owner t h
  valid_variable (temporary n kind) h = tt

  mutual
    valid_place : (p : NamedPlace) → IsPlace sc k p → CoversPlace S p
    valid_place (variable v) h = valid_variable v h
    valid_place (element_place u p e) h = (valid_place p h.0, valid_expr e h.1)
    valid_place (member_place a p) h = valid_place p h

    valid_expr : (e : NamedExpr) → IsExpr sc k e → CoversExpr S e
    valid_expr (constant kind v) h = tt
    valid_expr (reading p) h = valid_place p h.1
    valid_expr (unary_operation op kind a) h = valid_expr a h.1
    valid_expr (conversion kind a) h = valid_expr a h
    valid_expr (stepping op p) h = valid_place p h.1
    valid_expr (operation op kind a b) h = (valid_expr a h.1, valid_expr b h.2)
    valid_expr (conjunction a b) h = (valid_expr a h.0, valid_expr b h.1)
    valid_expr (disjunction a b) h = (valid_expr a h.0, valid_expr b h.1)
    valid_expr (choice kind c a b) h = (valid_expr c h.1, valid_expr a h.2, valid_expr b h.3)
    valid_expr (assignment p e) h = (valid_place p h.1, valid_expr e h.2)
    valid_expr (update p op kind e) h = (valid_place p h.2, valid_expr e h.3)
    valid_expr input_byte h = tt
    valid_expr (output_byte e) h = valid_expr e h
    valid_expr (formatted pieces es) h = valid_exprs es h.1

    valid_exprs : (es : NamedExprs) → AreExprs sc k es → CoversExprs S es
    valid_exprs no_expr h = tt
    valid_exprs (more_exprs e rest) h = (valid_expr e h.0, valid_exprs rest h.1)

  valid_args : (params : List MemberTree) (args : List NamedArg) → AreArgs sc k params args → All (CoversArg S) args
  valid_args [] [] h = All-nil (CoversArg S)
  valid_args [] (a ∷ args) h = absurd h
  valid_args (p ∷ params) [] h = absurd h
  valid_args (p ∷ params) (value_argument e ∷ args) h =
      All-cons (CoversArg S) (value_argument e) args (valid_expr e h.0.1) (valid_args params args h.1)
  valid_args (p ∷ params) (array_argument a ∷ args) h =
      All-cons (CoversArg S) (array_argument a) args (valid_place a h.0.1) (valid_args params args h.1)

  mutual
    valid_entry : (o : Option TypeTree) (init : InitTree) → IsInit sc k o init → CoversInit S init
    valid_entry o (one_value e) h = valid_expr e h.1
    valid_entry o (listed_init xs) h = valid_entries o 0 xs h.1

    valid_entries : (o : Option TypeTree) (i : ℕ) (xs : InitTrees) → AreInits sc k o i xs → CoversInits S xs
    valid_entries o i no_init h = tt
    valid_entries o i (more_inits x rest) h = (valid_entry (part_of o i) x h.0, valid_entries o (i + 1) rest h.1)

  valid_answer : (result : Option _) (a : Option AnswerTree) → IsAnswer sc k result a → CoversAnswer S a
  valid_answer None None h = tt
  valid_answer None (Some a) h = absurd h
  valid_answer (Some kind) None h = absurd h
  valid_answer (Some kind) (Some a) h = valid_expr a.value h.1

  module _ (P : ProgramTree) where
    valid_call : (temps : _) (c : CallTree) → IsCall P sc temps k c → All (CoversArg S) c.args
    valid_call temps c h = valid_args c.params c.args h.args

    valid_init : (f : FunctionTree) (owner : OwnerTree) (t : TypeTree) (init : InitTree) → IsInitialised f sc k owner t init → CoversLabel S (initialises owner t init)
    valid_init f owner t init h = (valid_local f.locals owner t h.0, valid_entry (Some t) init h.1)

    valid_whole : (f : FunctionTree) (l : LabelTree) → IsLast P f sc Whole k l → CoversLabel S l
    valid_whole f (evaluates e) h = valid_expr e h
    valid_whole f (initialises owner t init) h = valid_init f owner t init h
    valid_whole f (returns answer) h = valid_answer f.result answer h
    valid_whole f (halts e) h = valid_expr e h
    valid_whole f (calls c) h = valid_call f.temps c h
    valid_whole f _ h = absurd h

    valid_test : (f : FunctionTree) (l : LabelTree) → IsLast P f sc Test k l → CoversLabel S l
    valid_test f (branches e) h = valid_expr e h
    valid_test f _ h = absurd h

    valid_switch : (f : FunctionTree) (l : LabelTree) → IsLast P f sc Switch k l → CoversLabel S l
    valid_switch f (switches e) h = valid_expr e h
    valid_switch f _ h = absurd h

    valid_effect : (f : FunctionTree) (l : LabelTree) → IsLast P f sc Effect k l → CoversLabel S l
    valid_effect f (evaluates e) h = valid_expr e h
    valid_effect f (initialises owner t init) h = valid_init f owner t init h
    valid_effect f (calls c) h = valid_call f.temps c h
    valid_effect f _ h = absurd h

valid_label : (P : ProgramTree) (f : FunctionTree) (role : Role) (l : LabelTree) → MayStand P f role l → CoversLabel (declared P.globals) l
valid_label P f Whole l m = valid_whole P.globals (scope_of P f m.within.part) refl m.stage P f l m.last
valid_label P f Test l m = valid_test P.globals (scope_of P f m.within.part) refl m.stage P f l m.last
valid_label P f Switch l m = valid_switch P.globals (scope_of P f m.within.part) refl m.stage P f l m.last
valid_label P f Effect l m = valid_effect P.globals (scope_of P f m.within.part) refl m.stage P f l m.last

-- a label of a program lists the globals that its tree names
declared_listed : (gs : List GlobalTree) (l : LabelTree) (a : Name) → Among (label_names l) a → IsTrue (is_some (global_of gs a)) → IsTrue (listed (named_globals gs l) (global_root a))
declared_listed gs l a there is = pick (global_of gs a) refl is
  where
    pick : (o : Option GlobalTree) → global_of gs a ≡ o → IsTrue (is_some o) → IsTrue (listed (named_globals gs l) (global_root a))
    pick None e is = cc
    pick (Some g) e is = named_is_listed gs l a g e there

pub label_lists : (P : ProgramTree) → IsValid P → (f : Name) (p : PointTree) (l : PointLabel) → (flow_of P).label f p ≡ Some l → CoversLabel (listed l.globals) l.tree
label_lists P valid f p l e =
    let at = labelled_at P f p l e in
    let tree = at.stands.node.label in
    let covers = every_label P (CoversLabel (declared P.globals)) tt (λ rule. tt) tt (valid_label P) valid f p at.stands in
    subst (λ (m : PointLabel). CoversLabel (listed m.globals) m.tree) at.is
    (covers_more (declared P.globals) (listed (named_globals P.globals tree)) tree (declared_listed P.globals tree) covers)

alike : (o o' : Option GlobalTree) (g : GlobalTree) → o ≡ Some g → o' ≡ Some g → IsTrue (declared_alike o o')
alike o o' g e e' =
    subst₂ (λ x y. IsTrue (declared_alike x y)) (sym e) (sym e')
    (and_from (type_eq g.ctype g.ctype) (pointwise int_eq g.initial g.initial) (type_itself g.ctype) ((signed_items g.initial g.initial).1 refl))

-- what both programs have of a listed global is what the label has of it
module _ (P P' : Flow) where
  pub listed_shared : (gs : List GlobalTree) (a : Name) → AllByRecursion (λ g. P.global g.name ≡ Some g) gs → AllByRecursion (λ g. P'.global g.name ≡ Some g) gs → IsTrue (listed gs (global_root a)) → IsTrue (shared P P' (global_root a))
  listed_shared [] a h h' e = cc
  listed_shared (g ∷ gs) a h h' e = pick (bytes_eq g.name a) refl e (λ rest. listed_shared gs a h.1 h'.1 rest)
    where
      pick : (b : Bool) → bytes_eq g.name a ≡ b → IsTrue (b || list_any (λ i. bytes_eq i.name a) gs) → (IsTrue (listed gs (global_root a)) → IsTrue (shared P P' (global_root a))) → IsTrue (shared P P' (global_root a))
      pick true is e below = subst (λ n. IsTrue (declared_alike (P.global n) (P'.global n))) (same_name g.name a is) (alike (P.global g.name) (P'.global g.name) g h.0 h'.0)
      pick false is e below = below e

  pub label_covers : (l : PointLabel) → All (λ g. P.global g.name ≡ Some g) l.globals → All (λ g. P'.global g.name ≡ Some g) l.globals → CoversLabel (listed l.globals) l.tree → CoversLabel (shared P P') l.tree
  label_covers l h h' covers =
      covers_more (listed l.globals) (shared P P') l.tree (λ a there. listed_shared l.globals a (recursion_from_All (λ g. P.global g.name ≡ Some g) l.globals h) (recursion_from_All (λ g. P'.global g.name ≡ Some g) l.globals h')) covers
