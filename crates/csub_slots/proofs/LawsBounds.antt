-- What bounds frames, arguments and slots.
use Rattle.std.proofs.Common.{int_eq, pos, ◌≡◌, ◌≤◌, ◌<◌, ◌+◌, ◌-◌, ◌*◌, ℕ, zero, suc, ℤ, List, [], ◌∷◌, ◌++◌, length, replicate, All, Bool, true, false, Option, Some, None, nat_le, if◌then◌else◌, refl, ap, sym, subst, arith}
use Rattle.std.proofs.lemmas.Bool.{leb-false}
use Rattle.std.proofs.lemmas.List.Elements.{All-nil, All-cons, All-append, All-head, All-tail}
use Rattle.csub_types.specs.Kinds.{convert}
use Rattle.csub_types.specs.declared.trap.Trap.TheVariants.{Depth}
use Rattle.csub_objects.specs.Types.{TypeTree, number_type, array_type, struct_type, loose_type, MemberTree, MemberTrees, no_member, more_members, number_kind, cells, member_cells}
use Rattle.csub_semantics.specs.declared.label.EndRule.{EndRule}
use Rattle.csub_semantics.specs.declared.label.EndRule.TheVariants.{Nothing, Value, Main, Start}
use Rattle.csub_semantics.specs.declared.status.Status.TheVariants.{Exit, Trap}
use Rattle.csub_semantics.specs.Trees.{NamedPlace, NamedExpr, NamedExprs, NamedArg, variable, element_place, member_place, value_argument, array_argument}
use Rattle.csub_semantics.specs.Trees.{OwnerTree, global_owner, local_owner, object}
use Rattle.csub_semantics.specs.Trees.{constant, reading, unary_operation, conversion, stepping, operation, conjunction, disjunction, choice}
use Rattle.csub_semantics.specs.Trees.{assignment, update, input_byte, output_byte, formatted, no_expr, more_exprs, expr_count}
use Rattle.csub_semantics.specs.Points.{next, on_true, on_false}
use Rattle.csub_semantics.specs.Labels.{LabelTree, enters, exits, evaluates, initialises, branches, switches, returns, jumps, halts, calls, InitTree, one_value, listed}
use Rattle.csub_semantics.specs.Labels.{InitTrees, no_init, more_inits}
use Rattle.csub_semantics.specs.Syntax.{LocalTree, FunctionTree, ProgramTree}
use Rattle.csub_semantics.specs.Memory.{Answer, value, trapped, low_byte}
use Rattle.csub_semantics.specs.Evaluation.{eval}
use Rattle.csub_semantics.specs.Acts.{most_frames}
use Rattle.csub_validity.specs.Valid.{IsValid, part_of, most_parameters}
use Rattle.csub_flat.specs.Trees.{FlatVariable, FlatArg, FlatCall, writes, clears, FlatLabel, goes_on, leaves_by, does, begins, tests, chooses, answers, halts, enters_callee}
use Rattle.csub_flat.specs.Frames.{objects_size, frame_size, globals_of}
use Rattle.csub_flat.specs.Fits.{FitsPlace, FitsExpr, FitExprs, FitsArg, FitArgs, FitsInit, FitInits, IsBegun, FitsLabel, FitsCall}
use Rattle.csub_flat.specs.Flatten.{flat_place, flattened, flattened_row, variable_slot, parameter_slot, flat_given, paired, cleared, flat_writes, element_writes}
use Rattle.csub_flat.specs.Flatten.{member_writes}
use Rattle.csub_flat.specs.Copies.{IsFlatCall, IsFlat}
use Rattle.csub_flat.proofs.LawsSites.{found_has}
use Rattle.csub_slots.specs.Layout.{empty, live_size}
use Rattle.csub_slots.specs.Memory.{flat}
use Rattle.csub_slots.specs.Acts.{FlatStore, FlatOutcome, leaves, gives, pushes, pops, ends, flat_after, flat_arguments, flat_entered, flat_begins, flat_exit, flat_act}
use Rattle.csub_slots.specs.States.{FewAtPlace, FewValues, FewInRow, FewInGiven, FewInWrite, FitsMost}

-- live frames have room for the greatest each
pub live_room : (gs : List LocalTree) (fs : List FunctionTree) (most : ℕ) → All (λ f. frame_size f ≤ most) fs → live_size gs fs ≤ objects_size gs + length fs * most
live_room gs [] most h = omega arith
live_room gs (f ∷ below) most h =
    let Q : FunctionTree → Type 0 = λ f. frame_size f ≤ most in
    let one : frame_size f ≤ most = All-head Q f below h in
    let rest = live_room gs below most (All-tail Q f below h) in
    grind arith

paired_few : (gs : List LocalTree) (f g : FunctionTree) (params : List MemberTree) (args : List NamedArg) → length (paired gs f g params args) ≤ length params
paired_few gs f g [] args = omega arith
paired_few gs f g (p ∷ params) [] = omega arith
paired_few gs f g (p ∷ params) (a ∷ args) = let h = paired_few gs f g params args in omega arith

module _ (gs : List LocalTree) (f : FunctionTree) where
  row_count : (es : NamedExprs) → expr_count (flattened_row gs f es) ≡ expr_count es
  row_count no_expr = refl
  row_count (more_exprs e rest) = ap (λ n. n + 1) (row_count rest)

  -- what fits has few values, and so has its flat copy
  mutual
    place_few : (p : NamedPlace) → FitsPlace gs f p → FewAtPlace (flat_place gs f p)
    place_few (variable v) h = tt
    place_few (element_place u p e) h = (place_few p h.0, expr_few e h.1)
    place_few (member_place a p) h = place_few p h

    expr_few : (e : NamedExpr) → FitsExpr gs f e → FewValues (flattened gs f e)
    expr_few (constant k v) h = tt
    expr_few (reading p) h = place_few p h.1
    expr_few (unary_operation op k a) h = expr_few a h
    expr_few (conversion k a) h = expr_few a h
    expr_few (stepping op p) h = place_few p h.1
    expr_few (operation op k a b) h = (expr_few a h.0, expr_few b h.1)
    expr_few (conjunction a b) h = (expr_few a h.0, expr_few b h.1)
    expr_few (disjunction a b) h = (expr_few a h.0, expr_few b h.1)
    expr_few (choice k c a b) h = (expr_few c h.0, expr_few a h.1, expr_few b h.2)
    expr_few (assignment p e) h = (place_few p h.1, expr_few e h.2)
    expr_few (update p op k e) h = (place_few p h.1, expr_few e h.2)
    expr_few input_byte h = tt
    expr_few (output_byte e) h = expr_few e h
    expr_few (formatted pieces es) h = let few = h.0 in let same = row_count es in (omega arith, row_few es h.1)

    row_few : (es : NamedExprs) → FitExprs gs f es → FewInRow (flattened_row gs f es)
    row_few no_expr h = tt
    row_few (more_exprs e rest) h = (expr_few e h.0, row_few rest h.1)

  abbrev HasFew : FlatArg → Type 0
  HasFew a = FewInGiven a.given

  given_few : (p : MemberTree) (a : NamedArg) → FitsArg gs f p a → FewInGiven (flat_given gs f p a)
  given_few p (value_argument e) h = expr_few e h.1
  given_few p (array_argument a) h = place_few a h.1

  args_few : (g : FunctionTree) (params : List MemberTree) (args : List NamedArg) → FitArgs gs f params args → All HasFew (paired gs f g params args)
  args_few g [] args h = All-nil HasFew
  args_few g (p ∷ params) [] h = All-nil HasFew
  args_few g (p ∷ params) (a ∷ args) h =
      All-cons HasFew (record { slot = parameter_slot g p; given = flat_given gs f p a }) (paired gs f g params args) (given_few p a h.0) (args_few g params args h.1)

  cleared_few : (s n : ℕ) → All FewInWrite (cleared s n)
  cleared_few s zero = All-nil FewInWrite
  cleared_few s (suc n) = All-cons FewInWrite (clears s (suc n)) [] tt (All-nil FewInWrite)

  mutual
    init_few : (x : InitTree) (t : TypeTree) (s : ℕ) (o : Option TypeTree) → FitsInit gs f o x → All FewInWrite (flat_writes gs f t s x)
    init_few (one_value e) t s o h = All-cons FewInWrite (writes s (number_kind t) (flattened gs f e)) [] (expr_few e h.1) (All-nil FewInWrite)
    init_few (listed xs) (number_type k) s o h = All-nil FewInWrite
    init_few (listed xs) (array_type t n) s o h = elements_few xs t n 0 s o 0 h.1
    init_few (listed xs) (struct_type tag ms) s o h = members_few xs ms s o 0 h.1
    init_few (listed xs) (loose_type t) s o h = All-nil FewInWrite

    elements_few : (xs : InitTrees) (t : TypeTree) (n i s : ℕ) (o : Option TypeTree) (j : ℕ) → FitInits gs f o j xs → All FewInWrite (element_writes gs f t n i s xs)
    elements_few no_init t n i s o j h = cleared_few s ((n - i) * cells t)
    elements_few (more_inits x rest) t n i s o j h =
        All-append FewInWrite (flat_writes gs f t s x) (element_writes gs f t n (i + 1) (s + cells t) rest) (init_few x t s (part_of o j) h.0)
        (elements_few rest t n (i + 1) (s + cells t) o (j + 1) h.1)

    members_few : (xs : InitTrees) (ms : MemberTrees) (s : ℕ) (o : Option TypeTree) (j : ℕ) → FitInits gs f o j xs → All FewInWrite (member_writes gs f ms s xs)
    members_few no_init ms s o j h = cleared_few s (member_cells ms)
    members_few (more_inits x rest) no_member s o j h = All-nil FewInWrite
    members_few (more_inits x rest) (more_members a t ms) s o j h =
        All-append FewInWrite (flat_writes gs f t s x) (member_writes gs f ms (s + cells t) rest) (init_few x t s (part_of o j) h.0)
        (members_few rest ms (s + cells t) o (j + 1) h.1)

  begun_few : (owner : OwnerTree) (t : TypeTree) (init : InitTree) (s : ℕ) → IsBegun gs f owner t init → All FewInWrite (flat_writes gs f t s init)
  begun_few (global_owner a) t init s h = absurd h
  begun_few (local_owner a n) t init s h = init_few init t s (Some t) h.3

module _ (P : ProgramTree) (f : FunctionTree) (most : ℕ) (valid : IsValid P) (sizes : All (λ f. frame_size f ≤ most) P.functions) where
  call_most : (c : _) (d : FlatCall) → FitsCall P f c → IsFlatCall P f c d → FitsMost most (enters_callee d)
  call_most c d fit copy =
      let size : frame_size copy.callee ≤ most = found_has P (λ g. frame_size g ≤ most) c.callee copy.callee sizes copy.defined in
      let params : length fit.callee.params ≤ most_parameters = found_has P (λ g. length g.params ≤ most_parameters) c.callee fit.callee valid.parameters fit.defined in
      let same : length fit.callee.params ≡ length c.params = ap length fit.same in
      let few = paired_few (globals_of P) f copy.callee c.params c.args in
      let args = ap length copy.args in
      let e = copy.size in
      let values = args_few (globals_of P) f copy.callee c.params c.args fit.args in
      (omega arith, omega arith, subst (λ (args : List FlatArg). All (λ a. FewInGiven a.given) args) (sym copy.args) values)

  -- a call of a valid program has a frame no larger than the greatest, and at most 16 arguments; no `printf` has more than
  -- 8 values
  pub fits_most : (l : LabelTree) (m : FlatLabel) → FitsLabel P f l → IsFlat P f l m → FitsMost most m
  fits_most enters m fit copy = subst (FitsMost most) (sym copy) tt
  fits_most (exits rule) m fit copy = subst (FitsMost most) (sym copy) tt
  fits_most (evaluates e) m fit copy = subst (FitsMost most) (sym copy) (expr_few (globals_of P) f e fit)
  fits_most (initialises owner t init) m fit copy = subst (FitsMost most) (sym copy) (begun_few (globals_of P) f owner t init (variable_slot (globals_of P) f (object owner t)) fit)
  fits_most (branches e) m fit copy = subst (FitsMost most) (sym copy) (expr_few (globals_of P) f e fit)
  fits_most (switches e) m fit copy = subst (FitsMost most) (sym copy) (expr_few (globals_of P) f e fit)
  fits_most (returns None) m fit copy = subst (FitsMost most) (sym copy) tt
  fits_most (returns (Some a)) m fit copy = subst (FitsMost most) (sym copy) (expr_few (globals_of P) f a.value fit)
  fits_most jumps m fit copy = subst (FitsMost most) (sym copy) tt
  fits_most (halts e) m fit copy = subst (FitsMost most) (sym copy) (expr_few (globals_of P) f e fit)
  fits_most (calls c) m fit copy = subst (FitsMost most) (sym copy.1) (call_most c copy.0 fit copy.2)

-- only where fewer than 256 frames stand does one come on top
abbrev pub PushesBelow : ℕ → FlatOutcome → Type 0
PushesBelow n (leaves x r s) = Unit {0}
PushesBelow n (gives v s) = Unit {0}
PushesBelow n (pushes e b s) = n < most_frames
PushesBelow n (pops r s) = Unit {0}
PushesBelow n (ends t s) = Unit {0}

after_few : {X : Type 0} (n : ℕ) (a : Answer X FlatStore) (go : X → FlatStore → FlatOutcome) → ((x : X) (s : FlatStore) → PushesBelow n (go x s)) → PushesBelow n (flat_after a go)
after_few n (value x s) go h = h x s
after_few n (trapped t s) go h = tt

depth_few : (n e b : ℕ) (t u : FlatStore) (deep : Bool) → nat_le most_frames n ≡ deep → PushesBelow n (if deep then ends (Trap Depth) t else pushes e b u)
depth_few n e b t u true h = tt
depth_few n e b t u false h = leb-false most_frames n h

exit_few : (n : ℕ) (rule : EndRule) (v : FlatVariable) (base : ℕ) (r : Option ℤ) (s : FlatStore) → PushesBelow n (flat_exit rule v base r s)
exit_few n Nothing v base r s = tt
exit_few n Value v base None s = tt
exit_few n Value v base (Some w) s = tt
exit_few n Main v base None s = tt
exit_few n Main v base (Some w) s = tt
exit_few n Start v base r s = after_few n (eval (flat base) (reading (variable v)) s) (λ w t. ends (Exit (low_byte w)) t) (λ w t. tt)

-- and so by each act
pub act_few : (m : FlatLabel) (n base : ℕ) (r : Option ℤ) (s : FlatStore) → PushesBelow n (flat_act m n base r s)
act_few goes_on n base r s = tt
act_few (leaves_by rule v) n base r s = exit_few n rule v base r s
act_few (does e) n base r s = after_few n (eval (flat base) e s) (λ v t. leaves next r t) (λ v t. tt)
act_few (begins steps) n base r s = after_few n (flat_begins base steps s) (λ x t. leaves next r t) (λ x t. tt)
act_few (tests e) n base r s = after_few n (eval (flat base) e s) (λ v t. leaves (if int_eq v (pos 0) then on_false else on_true) r t) (λ v t. tt)
act_few (chooses e) n base r s = after_few n (eval (flat base) e s) gives (λ v t. tt)
act_few (answers k e) n base r s = after_few n (eval (flat base) e s) (λ v t. leaves next (Some (convert k v)) t) (λ v t. tt)
act_few (halts e) n base r s = after_few n (eval (flat base) e s) (λ v t. ends (Exit (low_byte v)) t) (λ v t. tt)
act_few (enters_callee c) n base r s =
    after_few n (flat_arguments base c.args s) (λ vs t. if nat_le most_frames n then ends (Trap Depth) t else pushes c.entry (length t.cells) (record t { cells = flat_entered (length t.cells) c.args vs (t.cells ++ replicate c.size empty) }))
    (λ vs t. depth_few n c.entry (length t.cells) t _ (nat_le most_frames n) refl)
