-- In a valid program each name in a label stands with the type of its declaration, and each tag with the members of its own.
use Rattle.std.proofs.Common.{ℕ, suc, ◌≡◌, ◌<◌, ◌+◌, List, [], ◌∷◌, ◌++◌, ◌∙◌, map, Bool, true, false, cond, ◌&&◌, nat_eq, All, AllPairs, Option, Some, None, find, option_map, refl, sym, ap, subst, arith, bytes_eq}
use Rattle.std.specs.List.{flat_map}
use Rattle.std.specs.Option.{option_and_then}
use Rattle.std.proofs.lemmas.Bool.{eqb-true, and_parts}
use Rattle.std.proofs.lemmas.List.Elements.{All-nil, All-cons, All-head, All-tail, All-append, All-map}
use Rattle.std.proofs.lemmas.Option.{slice_get_within, slice_get-get_or, get_or_from_slice_get}
use Rattle.csub_types.specs.declared.kind.IntKind.{IntKind}
use Rattle.csub_objects.specs.Types.{Name, TypeTree, MemberTree, members_of}
use Rattle.csub_semantics.specs.Types.{global_tree}
use Rattle.csub_semantics.specs.Trees.{OwnerTree, global_owner, local_owner, Variable, object, temporary, NamedPlace, variable, element_place, member_place, NamedExpr, constant, reading, unary_operation, conversion, stepping, operation, conjunction, disjunction, choice, assignment, update, input_byte, output_byte, formatted, NamedExprs, no_expr, more_exprs, NamedArg, value_argument, array_argument}
use Rattle.csub_semantics.specs.Labels.{LabelTree, evaluates, initialises, branches, switches, returns, halts, calls, PointLabel, CallTree, AnswerTree, InitTree, one_value, listed, InitTrees, no_init, more_inits}
use Rattle.csub_semantics.specs.Points.{PointTree}
use Rattle.csub_semantics.specs.Successors.{Way}
use Rattle.csub_semantics.specs.Syntax.{LocalTree, PartTree, FunctionTree, ProgramTree}
use Rattle.csub_semantics.specs.Flows.{function_nodes, function_of}
use Rattle.csub_semantics.specs.Numbers.{Site, name_at}
use Rattle.csub_validity.specs.declared.role.Role.{Role}
use Rattle.csub_validity.specs.declared.role.Role.TheVariants.{Whole, Test, Switch, Effect}
use Rattle.csub_validity.specs.Valid.{objects_of, parameter_object, Scope, scope_of, type_in, global_type, IsObject, IsVariable, IsPlace, IsExpr, AreExprs, IsArg, AreArgs, part_of, IsInit, AreInits, IsDefinedAs, IsCall, IsAnswer, IsInitialised, IsLast, AreOther, IsValid}
use Rattle.program_laws.proofs.LawsNames.{same_name}
use Rattle.program_laws.proofs.LawsNodes.{MayStand, IsNode, begins, ends, goes_on, tests, chooses, jumps_on, halts_there}
use Rattle.program_laws.proofs.LawsStanding.{IsPoint, node_is}
use Rattle.program_laws.proofs.LawsFlows.{labelled_at}
use Rattle.flow_graph.specs.Graph.{Tables, HasProgram}
use Rattle.edge_label.specs.declared.standing.Standing.{Standing}
use Rattle.edge_label.specs.Uses.{an_object, a_callee, TypeUse, parameters_type, variable_uses, place_uses, expr_uses, exprs_uses, arg_uses, init_uses, inits_uses, answer_uses, label_uses, Declarations, IsDeclaredUse, IsDeclared, AreTagged, AreDeclared, standing_tree}
use Rattle.dual_walk.specs.LabelRows.{StandsAt, AreLabelsOf}
use Rattle.dual_walk.proofs.LawsNumbers.{site_within, found_at}
use Rattle.dual_walk.proofs.Tagging.{all_right, declared_members, globals_tagged, global_tagged, object_tagged, function_tagged}

-- what a program declares
abbrev declarations : ProgramTree → Declarations
declarations P = record {
  file_type = global_type P.globals;
  own_type = λ f a n. option_and_then (λ (g : FunctionTree). type_in (objects_of g) a n) (option_and_then (function_of P) (name_at P f));
  parameters = λ a. option_map (λ (g : FunctionTree). parameters_type g.params) (function_of P a);
  by_tag = declared_members P;
}

-- what holds of pairs of a list
module _ {X : Type 0} (R : X → X → Type 0) (x : X) (xs : List X) where
  pairs_head : AllPairs R (x ∷ xs) → All (R x) xs
  pairs_head h k d below = h 0 (suc k) d (omega arith) (omega (arith, below))

  pairs_tail : AllPairs R (x ∷ xs) → AllPairs R xs
  pairs_tail h i j d less below = h (suc i) (suc j) d (omega (arith, less)) (omega (arith, below))

-- whether an object has a name and a number
abbrev is_named : Name → ℕ → LocalTree → Bool
is_named a n o = bytes_eq o.name a && nat_eq o.number n

-- an object that differs from all of a list has no type there
not_among : (o : LocalTree) (os : List LocalTree) (a : Name) (n : ℕ) (t : TypeTree) → All (AreOther o) os → is_named a n o ≡ true → type_in os a n ≡ Some t → ⊥
not_among o [] a n t others is e = absurd cc
not_among o (v ∷ os) a n t others is e = pick (is_named a n v) refl e (not_among o os a n t (All-tail (AreOther o) v os others) is)
  where
    pick : (b : Bool) → is_named a n v ≡ b → option_map (λ (u : LocalTree). u.ctype) (cond b (Some v) (find (is_named a n) os)) ≡ Some t → (type_in os a n ≡ Some t → ⊥) → ⊥
    pick true same e later =
        let mine = and_parts (bytes_eq o.name a) (nat_eq o.number n) is in
        let other = and_parts (bytes_eq v.name a) (nat_eq v.number n) same in
        All-head (AreOther o) v os others (same_name o.name a mine.0 ∙ sym (same_name v.name a other.0)) (eqb-true o.number n mine.1 ∙ sym (eqb-true v.number n other.1))
    pick false same e later = later e

-- a type that is found behind other objects is found among all of them, where no two have one name and one number
type_behind : (os vs : List LocalTree) (a : Name) (n : ℕ) (t : TypeTree) → AllPairs AreOther (os ++ vs) → type_in vs a n ≡ Some t → type_in (os ++ vs) a n ≡ Some t
type_behind [] vs a n t pairs e = e
type_behind (o ∷ os) vs a n t pairs e = pick (is_named a n o) refl (type_behind os vs a n t (pairs_tail AreOther o (os ++ vs) pairs) e)
  where
    pick : (b : Bool) → is_named a n o ≡ b → type_in (os ++ vs) a n ≡ Some t → option_map (λ (u : LocalTree). u.ctype) (cond b (Some o) (find (is_named a n) (os ++ vs))) ≡ Some t
    pick true is later = absurd (not_among o vs a n t (all_right (AreOther o) os vs (pairs_head AreOther o (os ++ vs) pairs)) is e)
    pick false is later = later

-- a function of a program, by its number
module _ (P : ProgramTree) (valid : IsValid P) (k : ℕ) (b : Name) (f : FunctionTree) (is : function_of P b ≡ Some f) (own : (a : Name) (n : ℕ) → (declarations P).own_type k a n ≡ type_in (objects_of f) a n) where
  -- a name stands with its declared type there, and the structs in it have their declared members
  abbrev HasItsType : TypeUse → Type 0
  HasItsType = IsDeclaredUse (declarations P) k

  abbrev HaveTheirTypes : List TypeUse → Type 0
  HaveTheirTypes uses = All HasItsType uses

  -- no names, and those of two trees
  none_there : HaveTheirTypes []
  none_there = All-nil HasItsType

  both_there : (us vs : List TypeUse) → HaveTheirTypes us → HaveTheirTypes vs → HaveTheirTypes (us ++ vs)
  both_there us vs h i = All-append HasItsType us vs h i

  -- validity lets an object stand with its declared type alone
  object_declared : (owner : OwnerTree) (t : TypeTree) → IsObject P.globals (objects_of f) owner t → HasItsType (record { named = an_object owner; ctype = t })
  object_declared (global_owner a) t h = (h, global_tagged P valid a t h)
  object_declared (local_owner a n) t h = (own a n ∙ h, object_tagged P valid b f is a n t h)

  -- an initialised object is a local, and no parameter has its name and its number
  local_declared : (owner : OwnerTree) (t : TypeTree) → AllPairs AreOther (objects_of f) → IsObject [] f.locals owner t → HasItsType (record { named = an_object owner; ctype = t })
  local_declared (global_owner a) t pairs h = absurd cc
  local_declared (local_owner a n) t pairs h = object_declared (local_owner a n) t (type_behind (map parameter_object f.params) f.locals a n t pairs h)

  -- and a callee with its own parameters
  callee_declared : (o : Option FunctionTree) (c : CallTree) → function_of P c.callee ≡ o → IsDefinedAs o c → HasItsType (record { named = a_callee c.callee; ctype = parameters_type c.params })
  callee_declared None c e h = absurd h
  callee_declared (Some g) c e h = (
    ap (option_map (λ (f : FunctionTree). parameters_type f.params)) e ∙ ap (λ (ms : List MemberTree). Some (parameters_type ms)) h.0,
    subst (λ (ms : List MemberTree). AreTagged (declared_members P) (members_of ms)) h.0 (function_tagged P valid c.callee g e),
  )

  module _ (p : PartTree) (j : ℕ) where
    abbrev sc : Scope
    sc = scope_of P f p

    -- the names in what a part may have at a stage
    variable_declared : (v : Variable) → IsVariable sc j v → HaveTheirTypes (variable_uses v)
    variable_declared (object owner t) h = All-cons HasItsType (record { named = an_object owner; ctype = t }) [] (object_declared owner t h) none_there
    variable_declared (temporary n kind) h = none_there

    mutual
      place_declared : (q : NamedPlace) → IsPlace sc j q → HaveTheirTypes (place_uses q)
      place_declared (variable v) h = variable_declared v h
      place_declared (element_place u q e) h = both_there (place_uses q) (expr_uses e) (place_declared q h.0) (expr_declared e h.1)
      place_declared (member_place a q) h = place_declared q h

      expr_declared : (e : NamedExpr) → IsExpr sc j e → HaveTheirTypes (expr_uses e)
      expr_declared (constant kind v) h = none_there
      expr_declared (reading q) h = place_declared q h.1
      expr_declared (unary_operation op kind a) h = expr_declared a h.1
      expr_declared (conversion kind a) h = expr_declared a h
      expr_declared (stepping op q) h = place_declared q h.1
      expr_declared (operation op kind a b) h = both_there (expr_uses a) (expr_uses b) (expr_declared a h.1) (expr_declared b h.2)
      expr_declared (conjunction a b) h = both_there (expr_uses a) (expr_uses b) (expr_declared a h.0) (expr_declared b h.1)
      expr_declared (disjunction a b) h = both_there (expr_uses a) (expr_uses b) (expr_declared a h.0) (expr_declared b h.1)
      expr_declared (choice kind c a b) h =
          both_there (expr_uses c) (expr_uses a ++ expr_uses b) (expr_declared c h.1) (both_there (expr_uses a) (expr_uses b) (expr_declared a h.2) (expr_declared b h.3))
      expr_declared (assignment q e) h = both_there (place_uses q) (expr_uses e) (place_declared q h.1) (expr_declared e h.2)
      expr_declared (update q op kind e) h = both_there (place_uses q) (expr_uses e) (place_declared q h.2) (expr_declared e h.3)
      expr_declared input_byte h = none_there
      expr_declared (output_byte e) h = expr_declared e h
      expr_declared (formatted pieces es) h = exprs_declared es h.1

      exprs_declared : (es : NamedExprs) → AreExprs sc j es → HaveTheirTypes (exprs_uses es)
      exprs_declared no_expr h = none_there
      exprs_declared (more_exprs e rest) h = both_there (expr_uses e) (exprs_uses rest) (expr_declared e h.0) (exprs_declared rest h.1)

    -- those in arguments
    arg_declared : (m : MemberTree) (a : NamedArg) → IsArg sc j m a → HaveTheirTypes (arg_uses a)
    arg_declared m (value_argument e) h = expr_declared e h.1
    arg_declared m (array_argument q) h = place_declared q h.1

    args_declared : (ms : List MemberTree) (args : List NamedArg) → AreArgs sc j ms args → HaveTheirTypes (flat_map arg_uses args)
    args_declared [] [] h = none_there
    args_declared [] (a ∷ args) h = absurd h
    args_declared (m ∷ ms) [] h = absurd h
    args_declared (m ∷ ms) (a ∷ args) h = both_there (arg_uses a) (flat_map arg_uses args) (arg_declared m a h.0) (args_declared ms args h.1)

    -- those in initialisers
    mutual
      init_declared : (o : Option TypeTree) (init : InitTree) → IsInit sc j o init → HaveTheirTypes (init_uses init)
      init_declared o (one_value e) h = expr_declared e h.1
      init_declared o (listed xs) h = inits_declared o 0 xs h.1

      inits_declared : (o : Option TypeTree) (i : ℕ) (xs : InitTrees) → AreInits sc j o i xs → HaveTheirTypes (inits_uses xs)
      inits_declared o i no_init h = none_there
      inits_declared o i (more_inits x rest) h = both_there (init_uses x) (inits_uses rest) (init_declared (part_of o i) x h.0) (inits_declared o (i + 1) rest h.1)

    -- and in labels
    answer_declared : (r : Option IntKind) (a : Option AnswerTree) → IsAnswer sc j r a → HaveTheirTypes (answer_uses a)
    answer_declared None None h = none_there
    answer_declared None (Some a) h = absurd h
    answer_declared (Some kind) None h = absurd h
    answer_declared (Some kind) (Some a) h = expr_declared a.value h.1

    call_declared : (c : CallTree) → IsCall P sc f.temps j c → HaveTheirTypes (label_uses (calls c))
    call_declared c h =
        All-cons HasItsType (record { named = a_callee c.callee; ctype = parameters_type c.params }) (flat_map arg_uses c.args) (callee_declared (function_of P c.callee) c refl h.defined) (args_declared c.params c.args h.args)

    initialised_declared : (owner : OwnerTree) (t : TypeTree) (init : InitTree) → AllPairs AreOther (objects_of f) → IsInitialised f sc j owner t init → HaveTheirTypes (label_uses (initialises owner t init))
    initialised_declared owner t init pairs h =
        All-cons HasItsType (record { named = an_object owner; ctype = t }) (init_uses init) (local_declared owner t pairs h.0) (init_declared (Some t) init h.1)

    last_declared : (role : Role) (l : LabelTree) → AllPairs AreOther (objects_of f) → IsLast P f sc role j l → HaveTheirTypes (label_uses l)
    last_declared Whole (calls c) pairs h = call_declared c h
    last_declared Whole (evaluates e) pairs h = expr_declared e h
    last_declared Whole (initialises owner t init) pairs h = initialised_declared owner t init pairs h
    last_declared Whole (returns answer) pairs h = answer_declared f.result answer h
    last_declared Whole (halts e) pairs h = expr_declared e h
    last_declared Test (branches e) pairs h = expr_declared e h
    last_declared Switch (switches e) pairs h = expr_declared e h
    last_declared Effect (calls c) pairs h = call_declared c h
    last_declared Effect (evaluates e) pairs h = expr_declared e h
    last_declared Effect (initialises owner t init) pairs h = initialised_declared owner t init pairs h
    last_declared role l pairs h = absurd h

  -- a label that may stand in the function
  may_declared : AllPairs AreOther (objects_of f) → (role : Role) (l : LabelTree) → MayStand P f role l → HaveTheirTypes (label_uses l)
  may_declared pairs role l m = last_declared m.within.part m.stage role l pairs m.last

  -- the label of a point of the function
  node_declared : AllPairs AreOther (objects_of f) → (T : PointTree → Type 0) (p : PointTree) (l : LabelTree) (ws : List (Way PointTree)) → IsNode P f T p l ws → HaveTheirTypes (label_uses l)
  node_declared pairs T p l ws (begins to h) = none_there
  node_declared pairs T p l ws ends = none_there
  node_declared pairs T p l ws (goes_on q r to m h) = may_declared pairs Whole r m
  node_declared pairs T p l ws (tests q r a b m h i) = may_declared pairs Test r m
  node_declared pairs T p l ws (chooses q r stmts name around m cases to) = may_declared pairs Switch r m
  node_declared pairs T p l ws (jumps_on q to h) = none_there
  node_declared pairs T p l ws (halts_there q e m) = may_declared pairs Whole (halts e) m

-- no two objects of a function of a valid program have one name and one number
objects_differ : (P : ProgramTree) → IsValid P → (a : Name) (f : FunctionTree) → function_of P a ≡ Some f → AllPairs AreOther (objects_of f)
objects_differ P valid a f e =
    let at = found_at (λ (g : FunctionTree). bytes_eq g.name a) P.functions f e in
    subst (λ (g : FunctionTree). AllPairs AreOther (objects_of g)) (get_or_from_slice_get P.functions at.0 f f at.1) (valid.objects at.0 f (slice_get_within P.functions at.0 f at.1))

-- the objects of the function with a number
own_objects : (P : ProgramTree) (k : ℕ) (g : Name) (f : FunctionTree) → name_at P k ≡ Some g → function_of P g ≡ Some f → (a : Name) (n : ℕ) → (declarations P).own_type k a n ≡ type_in (objects_of f) a n
own_objects P k g f named defined a n =
    let own = λ (o : Option FunctionTree). option_and_then (λ (h : FunctionTree). type_in (objects_of h) a n) o in
    ap (λ o. own (option_and_then (function_of P) o)) named ∙ ap own defined

-- in the label of a point of a valid program each name stands with the type of its declaration
label_declared : (P : ProgramTree) → IsValid P → (place : Site) (standing : Standing) → StandsAt P place standing → IsDeclared (declarations P) (standing_tree standing)
label_declared P valid place standing is =
    let at = labelled_at P place.function place.point _ is.label in
    let s = at.stands in
    let own = own_objects P standing.function place.function s.function is.function s.defined in
    let pairs = objects_differ P valid place.function s.function s.defined in
    subst (λ (l : LabelTree). All (IsDeclaredUse (declarations P) standing.function) (label_uses l)) (ap (λ (l : PointLabel). l.tree) at.is)
    (node_declared P valid standing.function place.function s.function s.defined own pairs (IsPoint (function_nodes s.function)) s.node.point s.node.label s.node.ways (node_is P place.function place.point valid s))

-- and so in the labels of all points of a graph, and its globals have types with the members of their tags
pub labels_declared : (g : Tables) (labels : List Standing) → HasProgram g → AreLabelsOf g labels → AreDeclared (map standing_tree labels) (map global_tree g.2)
labels_declared g labels has are =
    subst (AreDeclared (map standing_tree labels)) (sym has.1.globals)
    (declarations P, All-map (IsDeclared (declarations P)) standing_tree labels each, globals_tagged P has.1.valid)
  where
    P : ProgramTree
    P = has.0

    each : All (λ standing. IsDeclared (declarations P) (standing_tree standing)) labels
    each n standing below =
        let place = site_within g P n has.1 (subst (λ m. n < m) are.points below) in
        label_declared P has.1.valid place.0 _ (are.each n _ P place.0 (slice_get-get_or labels n standing below) has.1 place.1)
