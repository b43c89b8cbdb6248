-- The labels of a valid part fit the frame of its function.
use Rattle.std.proofs.Common.{ℕ, zero, suc, ◌+◌, ◌≡◌, ◌≤◌, List, [], ◌∷◌, map, All, AllPairs, Option, Some, None, IfSome, refl, ◌∙◌, ap, subst, arith}
use Rattle.std.specs.List.{slice_get}
use Rattle.std.specs.Option.{option_and_then}
use Rattle.csub_types.specs.declared.kind.IntKind.{IntKind}
use Rattle.csub_types.specs.declared.kind.IntKind.TheVariants.{Int}
use Rattle.csub_objects.specs.Types.{Name, TypeTree, MemberTree, number_type, IsSized}
use Rattle.csub_semantics.specs.Trees.{NamedPlace, NamedExpr, NamedArg, OwnerTree, global_owner, local_owner, variable, element_place, member_place, object, temporary, constant, reading, unary_operation, conversion, stepping, operation, conjunction, disjunction, choice, assignment, update, input_byte, output_byte, formatted, NamedExprs, no_expr, more_exprs, value_argument, array_argument}
use Rattle.csub_semantics.specs.Labels.{LabelTree, enters, exits, evaluates, initialises, branches, switches, returns, jumps, halts, calls, AnswerTree, CallTree, InitTree, one_value, listed, InitTrees, no_init, more_inits}
use Rattle.csub_semantics.specs.Syntax.{PartTree, FunctionTree, ProgramTree}
use Rattle.csub_semantics.specs.Flows.{function_of}
use Rattle.csub_validity.specs.declared.role.Role.{Role}
use Rattle.csub_validity.specs.declared.role.Role.TheVariants.{Whole, Test, Switch, Effect}
use Rattle.csub_validity.specs.Valid.{objects_of, label_result, stage_result, Scope, scope_of, result_of, IsPlace, IsExpr, AreExprs, IsArg, AreArgs, part_of, IsInit, AreInits, IsParameter, temp_of, IsDefinedAs, IsCall, IsAnswer, IsInitialised, IsLast, IsEarlier, AreStages, IsPart, AreOther, AreDeclared, AreGlobals, HasOwnNames}
use Rattle.csub_flat.specs.Frames.{globals_of}
use Rattle.csub_flat.specs.Fits.{FitsPlace, FitsExpr, FitExprs, FitsArg, FitArgs, FitsAnswer, FitsInit, FitInits, FitsTemp, HasParam, FitsCall, FitsLabel}
use Rattle.csub_flat.proofs.Objects.{all_has, has_all, object_place, local_place, parameter_place, temporary_has}
use Rattle.csub_flat.proofs.LawsSized.{number_sized}
use Rattle.csub_flat.proofs.Sized.{local_has, object_stands}

-- the objects of a function of a valid program
pub record HasObjects (f : FunctionTree) : Type 0 where
  pub pairs : AllPairs AreOther (objects_of f)
  pub declared : AreDeclared f
  pub names : All (λ v. HasOwnNames v.ctype) f.locals

module _ (P : ProgramTree) (f : FunctionTree) where
  -- a call with a result has its temporary within the frame
  call_temp : (sc : Scope) (k : ℕ) (c : CallTree) (kind : IntKind) → IsCall P sc f.temps k c → c.result ≡ Some kind → k ≤ f.temps
  call_temp sc k c kind h e = let t : c.temp ≡ Some k = h.temp ∙ ap (λ r. temp_of r k) e in subst (λ o. IfSome o (λ t. t ≤ f.temps)) t h.few

  earlier_temp : (sc : Scope) (k : ℕ) (l : LabelTree) (kind : IntKind) → IsEarlier P f sc k l → label_result l ≡ Some kind → k ≤ f.temps
  earlier_temp sc k (calls c) kind h e = call_temp sc k c kind h e
  earlier_temp sc k enters kind h e = absurd h
  earlier_temp sc k (exits rule) kind h e = absurd h
  earlier_temp sc k (evaluates x) kind h e = absurd h
  earlier_temp sc k (initialises owner t init) kind h e = absurd h
  earlier_temp sc k (branches x) kind h e = absurd h
  earlier_temp sc k (switches x) kind h e = absurd h
  earlier_temp sc k (returns answer) kind h e = absurd h
  earlier_temp sc k jumps kind h e = absurd h
  earlier_temp sc k (halts x) kind h e = absurd h

  last_temp : (sc : Scope) (role : Role) (k : ℕ) (l : LabelTree) (kind : IntKind) → IsLast P f sc role k l → label_result l ≡ Some kind → k ≤ f.temps
  last_temp sc Whole k (calls c) kind h e = call_temp sc k c kind h e
  last_temp sc Effect k (calls c) kind h e = call_temp sc k c kind h e
  last_temp sc Test k (calls c) kind h e = absurd h
  last_temp sc Switch k (calls c) kind h e = absurd h
  last_temp sc role k enters kind h e = cc
  last_temp sc role k (exits rule) kind h e = cc
  last_temp sc role k (evaluates x) kind h e = cc
  last_temp sc role k (initialises owner t init) kind h e = cc
  last_temp sc role k (branches x) kind h e = cc
  last_temp sc role k (switches x) kind h e = cc
  last_temp sc role k (returns answer) kind h e = cc
  last_temp sc role k jumps kind h e = cc
  last_temp sc role k (halts x) kind h e = cc

  -- each result of a part has its temporary within the frame
  stages_temp : (sc : Scope) (role : Role) (k : ℕ) (ps : PartTree) (i : ℕ) (kind : IntKind) → AreStages P f sc role k ps → slice_get (map stage_result ps) i ≡ Some (Some kind) → k + i ≤ f.temps
  stages_temp sc role k [] i kind h e = absurd h
  stages_temp sc role k (s ∷ []) zero kind h e = let r : stage_result s ≡ Some kind = cc in let w = last_temp sc role k s.label kind h r in omega arith
  stages_temp sc role k (s ∷ []) (suc i) kind h e = cc
  stages_temp sc role k (s ∷ t ∷ rest) zero kind h e = let r : stage_result s ≡ Some kind = cc in let w = earlier_temp sc k s.label kind h.0 r in omega arith
  stages_temp sc role k (s ∷ t ∷ rest) (suc i) kind h e = let w = stages_temp sc role (k + 1) (t ∷ rest) i kind h.1 e in omega arith

  -- a temporary that may be read stands in the frame
  pub result_temp : (role : Role) (p : PartTree) → IsPart P f role p → (n : ℕ) (kind : IntKind) → result_of (map stage_result p) n ≡ Some kind → (1 ≤ n) × (n ≤ f.temps)
  result_temp role p h zero kind e = cc
  result_temp role p h (suc i) kind e = pick (slice_get (map stage_result p) i) refl e
    where
      pick : (o : Option (Option IntKind)) → slice_get (map stage_result p) i ≡ o → option_and_then (λ r. r) o ≡ Some kind → (1 ≤ suc i) × (suc i ≤ f.temps)
      pick None g e = cc
      pick (Some r) g e =
          let w = stages_temp (scope_of P f p) role 1 p i kind h (g ∙ ap Some e) in
          (omega arith, omega arith)

  module _ (own : HasObjects f) (globals : AreGlobals P.globals) (p : PartTree) (temps : (n : ℕ) (kind : IntKind) → result_of (map stage_result p) n ≡ Some kind → (1 ≤ n) × (n ≤ f.temps)) where
    abbrev sc : Scope
    sc = scope_of P f p

    mutual
      pub place_fits : (k : ℕ) (q : NamedPlace) → IsPlace sc k q → FitsPlace (globals_of P) f q
      place_fits k (variable (object owner t)) h = (object_place P.globals f owner t h, object_stands P.globals f own.declared owner t globals h)
      place_fits k (variable (temporary n kind)) h = let w = temps n kind h.1 in (temporary_has P.globals f n kind w.0 w.1, number_sized (number_type kind) tt)
      place_fits k (element_place u q e) h = (place_fits k q h.0, expr_fits k e h.1)
      place_fits k (member_place a q) h = place_fits k q h

      pub expr_fits : (k : ℕ) (e : NamedExpr) → IsExpr sc k e → FitsExpr (globals_of P) f e
      expr_fits k (constant kind v) h = tt
      expr_fits k (reading q) h = (h.0, place_fits k q h.1)
      expr_fits k (unary_operation op kind a) h = expr_fits k a h.1
      expr_fits k (conversion kind a) h = expr_fits k a h
      expr_fits k (stepping op q) h = (h.0.1, place_fits k q h.1)
      expr_fits k (operation op kind a b) h = (expr_fits k a h.1, expr_fits k b h.2)
      expr_fits k (conjunction a b) h = (expr_fits k a h.0, expr_fits k b h.1)
      expr_fits k (disjunction a b) h = (expr_fits k a h.0, expr_fits k b h.1)
      expr_fits k (choice kind c a b) h = (expr_fits k c h.1, expr_fits k a h.2, expr_fits k b h.3)
      expr_fits k (assignment q e) h = (h.0.1, place_fits k q h.1, expr_fits k e h.2)
      expr_fits k (update q op kind e) h = (h.1.1, place_fits k q h.2, expr_fits k e h.3)
      expr_fits k input_byte h = tt
      expr_fits k (output_byte e) h = expr_fits k e h
      expr_fits k (formatted pieces es) h = (h.0.1, exprs_fit k es h.1)

      exprs_fit : (k : ℕ) (es : NamedExprs) → AreExprs sc k es → FitExprs (globals_of P) f es
      exprs_fit k no_expr h = tt
      exprs_fit k (more_exprs e rest) h = (expr_fits k e h.0, exprs_fit k rest h.1)

    arg_fits : (k : ℕ) (q : MemberTree) (a : NamedArg) → IsArg sc k q a → FitsArg (globals_of P) f q a
    arg_fits k q (value_argument e) h = (h.0, expr_fits k e h.1)
    arg_fits k q (array_argument a) h = (h.0, place_fits k a h.1)

    args_fit : (k : ℕ) (params : List MemberTree) (args : List NamedArg) → AreArgs sc k params args → FitArgs (globals_of P) f params args
    args_fit k [] [] h = tt
    args_fit k [] (a ∷ args) h = absurd h
    args_fit k (q ∷ params) [] h = absurd h
    args_fit k (q ∷ params) (a ∷ args) h = (arg_fits k q a h.0, args_fit k params args h.1)

    mutual
      init_fits : (k : ℕ) (o : Option TypeTree) (init : InitTree) → IsInit sc k o init → FitsInit (globals_of P) f o init
      init_fits k o (one_value e) h = (h.0, expr_fits k e h.1)
      init_fits k o (listed xs) h = (h.0, inits_fit k o 0 xs h.1)

      inits_fit : (k : ℕ) (o : Option TypeTree) (i : ℕ) (xs : InitTrees) → AreInits sc k o i xs → FitInits (globals_of P) f o i xs
      inits_fit k o i no_init h = tt
      inits_fit k o i (more_inits x rest) h = (init_fits k (part_of o i) x h.0, inits_fit k o (i + 1) rest h.1)

    -- an initialised object is a local
    init_all : (k : ℕ) (owner : OwnerTree) (t : TypeTree) (init : InitTree) → IsInitialised f sc k owner t init → FitsLabel P f (initialises owner t init)
    init_all k (global_owner a) t init h = let none = h.0 in cc
    init_all k (local_owner a n) t init h =
        let owner = local_owner a n in (
          local_place P.globals f owner t own.pairs h.0,
          local_has IsSized f.locals owner t own.declared.locals h.0,
          local_has HasOwnNames f.locals owner t own.names h.0,
          init_fits k (Some t) init h.1,
        )

    temp_fits : (k : ℕ) (r : Option IntKind) (o : Option ℕ) → 1 ≤ k → o ≡ temp_of r k → IfSome o (λ t. t ≤ f.temps) → FitsTemp (globals_of P) f o
    temp_fits k None None low e few = tt
    temp_fits k None (Some n) low e few = cc
    temp_fits k (Some kind) None low e few = cc
    temp_fits k (Some kind) (Some n) low e few = let same : n ≡ k = cc in temporary_has P.globals f n Int (omega arith) few

    module _ (others : (g : FunctionTree) (a : Name) → function_of P a ≡ Some g → HasObjects g) where
      call_fits : (k : ℕ) (c : CallTree) → 1 ≤ k → IsCall P sc f.temps k c → FitsCall P f c
      call_fits k c low h = pick (function_of P c.callee) refl h.defined
        where
          pick : (o : Option FunctionTree) → function_of P c.callee ≡ o → IsDefinedAs o c → FitsCall P f c
          pick None e d = absurd d
          pick (Some g) e d =
              let other = others g c.callee e in
              let Fits : MemberTree → Type 0 = HasParam (globals_of P) g in
              let each : All Fits g.params = all_has Fits g.params (λ q i. (parameter_place P.globals g q other.pairs i, has_all (λ (r : MemberTree). IsParameter r.ctype) g.params other.declared.params q i)) in
              record {
                callee = g;
                defined = e;
                same = d.0;
                params = subst (λ (ps : List MemberTree). All Fits ps) d.0 each;
                args = args_fit k c.params c.args h.args;
                temp = temp_fits k c.result c.temp low h.temp h.few;
              }

      answer_fits : (k : ℕ) (r : Option IntKind) (a : Option AnswerTree) → IsAnswer sc k r a → FitsAnswer (globals_of P) f a
      answer_fits k None None h = tt
      answer_fits k None (Some a) h = absurd h
      answer_fits k (Some kind) None h = absurd h
      answer_fits k (Some kind) (Some a) h = expr_fits k a.value h.1

      pub last_fits : (role : Role) (k : ℕ) (l : LabelTree) → 1 ≤ k → IsLast P f sc role k l → FitsLabel P f l
      last_fits Whole k (calls c) low h = call_fits k c low h
      last_fits Whole k (evaluates e) low h = expr_fits k e h
      last_fits Whole k (initialises owner t init) low h = init_all k owner t init h
      last_fits Whole k (returns answer) low h = answer_fits k f.result answer h
      last_fits Whole k (halts e) low h = expr_fits k e h
      last_fits Test k (branches e) low h = expr_fits k e h
      last_fits Switch k (switches e) low h = expr_fits k e h
      last_fits Effect k (calls c) low h = call_fits k c low h
      last_fits Effect k (evaluates e) low h = expr_fits k e h
      last_fits Effect k (initialises owner t init) low h = init_all k owner t init h
      last_fits role k l low h = absurd h
