-- Acts over slots are like acts over named cells.
use Rattle.std.proofs.Common.{ℕ, ◌+◌, ◌-◌, ◌≡◌, ◌≤◌, min, ℤ, pos, List, [], ◌∷◌, ◌++◌, map, length, replicate, All, Bool, true, false, Option, Some, None, nat_le, int_eq, if◌then◌else◌, refl, sym, ◌∙◌, ap, subst, arith}
use Rattle.std.proofs.lemmas.List.Elements.{All-nil, All-cons, All-head, All-tail}
use Rattle.csub_types.specs.declared.kind.IntKind.TheVariants.{Int}
use Rattle.csub_types.specs.declared.trap.Trap.TheVariants.{Depth}
use Rattle.csub_types.specs.Kinds.{convert}
use Rattle.csub_semantics.specs.declared.label.EndRule.{EndRule}
use Rattle.csub_semantics.specs.declared.label.EndRule.TheVariants.{Nothing, Value, Main, Start}
use Rattle.csub_semantics.specs.declared.status.Status.{Status}
use Rattle.csub_semantics.specs.declared.status.Status.TheVariants.{Trap}
use Rattle.csub_objects.specs.Types.{Name, TypeTree, number_type, array_type, struct_type, loose_type, number_kind, element_type, MemberTree, IsNumber, IsSized}
use Rattle.csub_objects.specs.Paths.{Inside, inside_at}
use Rattle.csub_semantics.specs.Types.{GlobalTree}
use Rattle.csub_semantics.specs.Trees.{NamedPlace, NamedExpr, NamedArg, value_argument, array_argument, reading, variable, object, temporary, OwnerTree, global_owner, local_owner}
use Rattle.csub_semantics.specs.Labels.{LabelTree, enters, exits, evaluates, initialises, branches, switches, returns, jumps, halts, calls, CallTree, InitTree}
use Rattle.csub_semantics.specs.Syntax.{LocalTree, FunctionTree, ProgramTree}
use Rattle.csub_semantics.specs.Points.{ExitTree, next, on_true, on_false}
use Rattle.csub_semantics.specs.Flows.{function_of}
use Rattle.csub_semantics.specs.Memory.{Answer}
use Rattle.csub_semantics.specs.Evaluation.{locate, eval}
use Rattle.csub_semantics.specs.Cells.{local_root, Content, number, Spot, named, dropped, entered}
use Rattle.csub_semantics.specs.Initialising.{object_spot, initialise}
use Rattle.csub_semantics.specs.Acts as the
use Rattle.csub_semantics.specs.Acts.{Store, after_value, reference_to, argument_content, argument_contents, most_frames, act, act_exit, act_call, act_init, leave_frame}
use Rattle.csub_validity.specs.Valid.{objects_of, place_type, RefersTo, AreGlobals}
use Rattle.csub_slots.proofs.Evals.{LikeAnswer, both_values, both_trapped, LikeMemory, then_same, then_like, like_locate, like_eval}
use Rattle.csub_slots.specs.Layout.{Slot, empty, holding, referring, slot_of, Holds, StandsFor, live_size, live}
use Rattle.csub_flat.specs.Sites.{IsEntry}
use Rattle.csub_flat.specs.Frames.{plain, place_in, frame_size, global_object, globals_of}
use Rattle.csub_slots.specs.Memory.{FlatSpot, most_referred, flat}
use Rattle.csub_flat.specs.Flatten.{slot_or, variable_slot, flat_variable, flat_place, flattened, flat_given, paired, flat_writes}
use Rattle.csub_flat.specs.Fits.{HasParam, FitsPlace, FitsExpr, FitsArg, FitArgs, FitsRule, FitsCall, FitsLabel, IsBegun}
use Rattle.csub_slots.specs.Acts.{FlatStore, FlatOutcome, leaves, gives, pushes, pops, ends, flat_after, referring_to, flat_given_slot, flat_arguments, flat_entered}
use Rattle.csub_slots.specs.Acts.{flat_begins, flat_call, flat_leave, flat_exit, flat_act}
use Rattle.csub_flat.specs.Trees.{array_at, FlatArg, FlatCall, FlatLabel}
use Rattle.csub_flat.specs.Copies.{IsFlatCall, IsFlat}
use Rattle.csub_flat.proofs.LawsSized.{number_sized}
use Rattle.csub_slots.specs.Like.{Like, SameText}
use Rattle.csub_slots.proofs.Layouts.{live_is_layout}
use Rattle.csub_slots.proofs.Places.{root_slot}
use Rattle.csub_slots.proofs.Parts.{slot_fits}
use Rattle.csub_slots.proofs.Memories.{SameVariable, SameElement, SameMember, real, SameSpot, flat_like}
use Rattle.csub_slots.proofs.Copied.{HasSize, local_lives, place_flat, expr_flat}
use Rattle.csub_slots.proofs.Initials.{init_like}
use Rattle.csub_slots.proofs.LawsFrames.{rank_slot, AreGiven, no_params, no_args, one_given, enter_stands, leave_stands, entered_stands}

globals_sized : (globals : List GlobalTree) → All (λ (g : GlobalTree). IsSized g.ctype) globals → All HasSize (map global_object globals)
globals_sized [] h = All-nil HasSize
globals_sized (g ∷ rest) h =
    let Q : GlobalTree → Type 0 = λ g. IsSized g.ctype in
    All-cons HasSize (global_object g) (map global_object rest) (All-head Q g rest h) (globals_sized rest (All-tail Q g rest h))

-- outcomes over named cells and over slots that are alike
pub data LikeOutcome (P : ProgramTree) (f : FunctionTree) (below : List FunctionTree) : the.Outcome → FlatOutcome → Type 0 where
  both_leave : {x : ExitTree} {r : Option ℤ} {s : Store} {s' : FlatStore} → Like (globals_of P) (f ∷ below) s s' → LikeOutcome P f below (the.leaves x r s) (leaves x r s')
  both_give : {v : ℤ} {s : Store} {s' : FlatStore} → Like (globals_of P) (f ∷ below) s s' → LikeOutcome P f below (the.gives v s) (gives v s')
  both_push : {g : Name} {callee : FunctionTree} {e b : ℕ} {s : Store} {s' : FlatStore} → function_of P g ≡ Some callee → IsEntry P g e → b ≡ live_size (globals_of P) (f ∷ below) → Like (globals_of P) (callee ∷ f ∷ below) s s' → LikeOutcome P f below (the.pushes g s) (pushes e b s')
  both_pop : {r : Option ℤ} {s : Store} {s' : FlatStore} → Like (globals_of P) below s s' → LikeOutcome P f below (the.pops r s) (pops r s')
  both_end : {t : Status} {s : Store} {s' : FlatStore} → SameText s s' → LikeOutcome P f below (the.ends t s) (ends t s')

-- where the globals are valid, and no more slots are live than can be referred to
module _ (P : ProgramTree) (globals : AreGlobals P.globals) (f : FunctionTree) (below : List FunctionTree) (few : live_size (globals_of P) (f ∷ below) ≤ most_referred) where
  abbrev gs : List LocalTree
  gs = globals_of P

  abbrev fs : List FunctionTree
  fs = f ∷ below

  abbrev base : ℕ
  base = live_size gs below

  sized : All HasSize gs
  sized = globals_sized P.globals globals.types

  alike : LikeMemory IsNumber (SameVariable (live gs fs) (length below) base) SameElement SameMember (SameSpot (live gs fs)) (StandsFor (live gs fs) (live_size gs fs)) (named (length below)) (flat base)
  alike = flat_like (live gs fs) (live_size gs fs) (live_is_layout gs fs) (length below) base (omega arith)

  eval_like : (h : ℕ) (e : NamedExpr) (s : Store) (s' : FlatStore) → h ≡ length below → FitsExpr gs f e → Like gs fs s s' → LikeAnswer (λ (x y : ℤ). x ≡ y) (Like gs fs) (eval (named h) e s) (eval (flat base) (flattened gs f e) s')
  eval_like h e s s' same fit like =
      subst (λ (k : ℕ). LikeAnswer (λ (x y : ℤ). x ≡ y) (Like gs fs) (eval (named k) e s) (eval (flat base) (flattened gs f e) s')) (sym same)
      (like_eval alike e (flattened gs f e) s s' (expr_flat gs sized f below e fit) like)

  -- after an answer
  after_like : {X X' : Type 0} {RX : X → X' → Type 0} {a : Answer X Store} {a' : Answer X' FlatStore} {go : X → Store → the.Outcome} {go' : X' → FlatStore → FlatOutcome} → LikeAnswer RX (Like gs fs) a a'
      → ((x : X) (x' : X') (s : Store) (s' : FlatStore) → RX x x' → Like gs fs s s' → LikeOutcome P f below (go x s) (go' x' s')) → LikeOutcome P f below (after_value a go) (flat_after a' go')
  after_like (both_values {x = x} {x' = x'} {s = s} {s' = s'} e r) k = k x x' s s' e r
  after_like (both_trapped r) k = both_end (record { input = r.input; output = r.output })

  -- after a number
  after_same : {a : Answer ℤ Store} {a' : Answer ℤ FlatStore} {go : ℤ → Store → the.Outcome} {go' : ℤ → FlatStore → FlatOutcome} → LikeAnswer (λ (x y : ℤ). x ≡ y) (Like gs fs) a a'
      → ((x : ℤ) (s : Store) (s' : FlatStore) → Like gs fs s s' → LikeOutcome P f below (go x s) (go' x s')) → LikeOutcome P f below (after_value a go) (flat_after a' go')
  after_same {go = go} {go' = go'} (both_values {x = x} {x' = x'} {s = s} {s' = s'} e r) k = subst (λ y. LikeOutcome P f below (go x s) (go' y s')) e (k x s s' r)
  after_same (both_trapped r) k = both_end (record { input = r.input; output = r.output })

  leave_like : (n : ℕ) (r : Option ℤ) (s : Store) (s' : FlatStore) → n - 1 ≡ length below → Like gs fs s s' → LikeOutcome P f below (leave_frame n r s) (flat_leave base r s')
  leave_like n r s s' same like =
      subst (λ (k : ℕ). LikeOutcome P f below (the.pops r (record s { cells = dropped k s.cells })) (flat_leave base r s')) (sym same)
      (both_pop (record { input = like.input; output = like.output; cells = leave_stands gs f below s.cells s'.cells like.cells }))

  exit_like : (rule : EndRule) (n : ℕ) (r : Option ℤ) (s : Store) (s' : FlatStore) → n - 1 ≡ length below → FitsRule gs f rule → Like gs fs s s' → LikeOutcome P f below (act_exit rule n r s) (flat_exit rule (flat_variable gs f (temporary 1 Int)) base r s')
  exit_like Nothing n r s s' same fit like = leave_like n r s s' same like
  exit_like Value n None s s' same fit like = both_end (record { input = like.input; output = like.output })
  exit_like Value n (Some v) s s' same fit like = leave_like n (Some v) s s' same like
  exit_like Main n None s s' same fit like = leave_like n (Some (pos 0)) s s' same like
  exit_like Main n (Some v) s s' same fit like = leave_like n (Some v) s s' same like
  exit_like Start n r s s' same fit like =
      after_same (eval_like (n - 1) (reading (variable (temporary 1 Int))) s s' same (tt, (fit, number_sized (number_type Int) tt)) like) (λ v t t' l. both_end (record { input = l.input; output = l.output }))

  locate_like : (h : ℕ) (p : NamedPlace) (t : TypeTree) (s : Store) (s' : FlatStore) → h ≡ length below → FitsPlace gs f p → place_type p ≡ Some t → Like gs fs s s'
      → LikeAnswer (SameSpot (live gs fs) t) (Like gs fs) (locate (named h) p s) (locate (flat base) (flat_place gs f p) s')
  locate_like h p t s s' same fit e like =
      subst (λ (k : ℕ). LikeAnswer (SameSpot (live gs fs) t) (Like gs fs) (locate (named k) p s) (locate (flat base) (flat_place gs f p) s')) (sym same)
      (like_locate alike t p (flat_place gs f p) s s' (place_flat gs sized f below p t fit e) like)

  -- a parameter of the frame that comes on top may hold this
  abbrev Gives : MemberTree → Content → Slot → Type 0
  Gives p c v = Holds (live gs fs) (local_root (length fs) p.name 1) (plain p.ctype) (Some c) v

  -- an array, also behind an array parameter
  reference_like : (p : MemberTree) (t u : TypeTree) (l : Spot) (l' : FlatSpot) → p.ctype ≡ loose_type t → element_type u ≡ Some t → SameSpot (live gs fs) u l l'
      → Gives p (reference_to l) (referring_to l')
  reference_like p t u l l' param elements same =
      subst (λ (w : TypeTree). Holds (live gs fs) (local_root (length fs) p.name 1) (plain w) (Some (reference_to l)) (referring_to l')) (sym param) (record {
        at = min l'.slot most_referred;
        is = ap (referring (min l'.slot most_referred)) (sym same.length);
        there = there ∙ ap (λ n. let o : Option Inside = Some (inside_at n (array_type (plain t) l.length)) in o) small;
        below = let r = rank_slot gs fs l.cell (inside_at l'.slot (array_type (plain t) l.length)) there in omega arith;
      })
    where
      array_there : (u : TypeTree) → element_type u ≡ Some t → slot_of (live gs fs) l.cell ≡ Some (inside_at l'.slot (plain (real u l.length)))
          → slot_of (live gs fs) l.cell ≡ Some (inside_at l'.slot (array_type (plain t) l.length))
      array_there (number_type k) e h = cc
      array_there (array_type v m) e h =
          let is : v ≡ t = cc in subst (λ (w : TypeTree). slot_of (live gs fs) l.cell ≡ Some (inside_at l'.slot (array_type (plain w) l.length))) is h
      array_there (struct_type tag ms) e h = cc
      array_there (loose_type v) e h =
          let is : v ≡ t = cc in subst (λ (w : TypeTree). slot_of (live gs fs) l.cell ≡ Some (inside_at l'.slot (array_type (plain w) l.length))) is h

      there : slot_of (live gs fs) l.cell ≡ Some (inside_at l'.slot (array_type (plain t) l.length))
      there = array_there u elements same.there

      small : l'.slot ≡ min l'.slot most_referred
      small = let h = slot_fits (live gs fs) (live_size gs fs) (live_is_layout gs fs) l.cell (inside_at l'.slot (array_type (plain t) l.length)) there in omega (arith, few, h)

  number_like : (p : MemberTree) (t : TypeTree) (v : ℤ) → p.ctype ≡ t → IsNumber t → Gives p (number (convert (number_kind p.ctype) v)) (holding (convert (number_kind p.ctype) v))
  number_like p (number_type k) v e n =
      subst (λ (w : TypeTree). Holds (live gs fs) (local_root (length fs) p.name 1) (plain w) (Some (number (convert (number_kind p.ctype) v))) (holding (convert (number_kind p.ctype) v))) (sym e) refl
  number_like p (array_type t m) v e n = absurd n
  number_like p (struct_type tag ms) v e n = absurd n
  number_like p (loose_type t) v e n = absurd n

  array_like : (h : ℕ) (p : MemberTree) (a : NamedPlace) (s : Store) (s' : FlatStore) (w : TypeTree) (o : Option TypeTree) → h ≡ length below → p.ctype ≡ w → place_type a ≡ o
      → RefersTo w o → FitsPlace gs f a → Like gs fs s s'
      → LikeAnswer (Gives p) (Like gs fs) (argument_content h p (array_argument a) s) (flat_given_slot base (array_at (flat_place gs f a)) s')
  array_like h p a s s' (number_type k) o same e g refers fit like = absurd refers
  array_like h p a s s' (array_type t n) o same e g refers fit like = absurd refers
  array_like h p a s s' (struct_type tag ms) o same e g refers fit like = absurd refers
  array_like h p a s s' (loose_type t) None same e g refers fit like = absurd refers
  array_like h p a s s' (loose_type t) (Some u) same e g refers fit like =
      then_like (locate_like h a u s s' same fit g like) (λ l l' x x' spot both. both_values (reference_like p t u l l' e refers spot) both)

  argument_like : (h : ℕ) (p : MemberTree) (a : NamedArg) (s : Store) (s' : FlatStore) → h ≡ length below → FitsArg gs f p a → Like gs fs s s'
      → LikeAnswer (Gives p) (Like gs fs) (argument_content h p a s) (flat_given_slot base (flat_given gs f p a) s')
  argument_like h p (value_argument e) s s' same fit like =
      then_same (eval_like h e s s' same fit.1 like) (λ v t t' l. both_values (number_like p p.ctype v refl fit.0) l)
  argument_like h p (array_argument a) s s' same fit like = array_like h p a s s' p.ctype (place_type a) same refl refl fit.0 fit.1 like

  arguments_like : (h : ℕ) (g : FunctionTree) (params : List MemberTree) (args : List NamedArg) (s : Store) (s' : FlatStore) → h ≡ length below → FitArgs gs f params args → Like gs fs s s'
      → LikeAnswer (AreGiven (live gs fs) (length fs) params args) (Like gs fs) (argument_contents h params args s) (flat_arguments base (paired gs f g params args) s')
  arguments_like h g [] args s s' same fit like = both_values no_params like
  arguments_like h g (p ∷ params) [] s s' same fit like = both_values no_args like
  arguments_like h g (p ∷ params) (a ∷ args) s s' same fit like =
      then_like (argument_like h p a s s' same fit.0 like)
      (λ c v t t' e l. then_like (arguments_like h g params args t t' same fit.1 l) (λ cs vs u u' i m. both_values (one_given e i) m))

  -- a callee's frame
  pushed_like : (g : FunctionTree) (params : List MemberTree) (args : List NamedArg) (cs : List Content) (vs : List Slot) (n b size : ℕ) (ps : List FlatArg) (t : Store) (t' : FlatStore)
      → n ≡ length fs → b ≡ live_size gs fs → size ≡ frame_size g → ps ≡ paired gs f g params args → AreGiven (live gs fs) (length fs) params args cs vs
      → All (HasParam gs g) params → Like gs fs t t'
      → Like gs (g ∷ fs) (record t { cells = entered n params cs t.cells }) (record t' { cells = flat_entered b ps vs (t'.cells ++ replicate size empty) })
  pushed_like g params args cs vs n b size ps t t' en eb es ep given fit like = record {
    input = like.input;
    output = like.output;
    cells =
        subst (λ (k : ℕ). StandsFor (live gs (g ∷ fs)) (live_size gs (g ∷ fs)) (entered k params cs t.cells) (flat_entered b ps vs (t'.cells ++ replicate size empty))) (sym en)
        (subst (λ (k : ℕ). StandsFor (live gs (g ∷ fs)) (live_size gs (g ∷ fs)) (entered (length fs) params cs t.cells) (flat_entered k ps vs (t'.cells ++ replicate size empty))) (sym eb)
        (subst (λ (k : ℕ). StandsFor (live gs (g ∷ fs)) (live_size gs (g ∷ fs)) (entered (length fs) params cs t.cells) (flat_entered (live_size gs fs) ps vs (t'.cells ++ replicate k empty))) (sym es)
        (subst (λ (qs : List FlatArg). StandsFor (live gs (g ∷ fs)) (live_size gs (g ∷ fs)) (entered (length fs) params cs t.cells) (flat_entered (live_size gs fs) qs vs (t'.cells ++ replicate (frame_size g) empty))) (sym ep)
        (entered_stands gs g fs f params args cs vs t.cells (t'.cells ++ replicate (frame_size g) empty) given fit (enter_stands gs g fs t.cells t'.cells like.cells)))));
  }

  call_like : (c : CallTree) (d : FlatCall) (n : ℕ) (s : Store) (s' : FlatStore) → n ≡ length fs → n - 1 ≡ length below → FitsCall P f c → IsFlatCall P f c d → Like gs fs s s' → LikeOutcome P f below (act_call c n s) (flat_call d n base s')
  call_like c d n s s' en same fit copy like =
      let g = copy.callee in
      let one : fit.callee ≡ g = let both = sym fit.defined ∙ copy.defined in cc in
      let placed = subst (λ (k : FunctionTree). All (HasParam gs k) c.params) one fit.params in
      subst (λ (xs : List FlatArg). LikeOutcome P f below (act_call c n s) (flat_after (flat_arguments base xs s') (go' d))) (sym copy.args)
      (after_like (arguments_like (n - 1) g c.params c.args s s' same fit.args like)
      (λ cs vs t t' given l. by_depth placed (nat_le most_frames n) cs vs t t' given l))
    where
      go' : FlatCall → List Slot → FlatStore → FlatOutcome
      go' d vs t = if nat_le most_frames n then ends (Trap Depth) t else pushes d.entry (length t.cells) (record t { cells = flat_entered (length t.cells) d.args vs (t.cells ++ replicate d.size empty) })

      by_depth : All (HasParam gs copy.callee) c.params → (b : Bool) (cs : List Content) (vs : List Slot) (t : Store) (t' : FlatStore) → AreGiven (live gs fs) (length fs) c.params c.args cs vs → Like gs fs t t'
          → LikeOutcome P f below (if b then the.ends (Trap Depth) t else the.pushes c.callee (record t { cells = entered n c.params cs t.cells })) (if b then ends (Trap Depth) t' else pushes d.entry (length t'.cells) (record t' { cells = flat_entered (length t'.cells) d.args vs (t'.cells ++ replicate d.size empty) }))
      by_depth placed true cs vs t t' given l = both_end (record { input = l.input; output = l.output })
      by_depth placed false cs vs t t' given l =
          both_push copy.defined copy.entry l.cells.size (pushed_like copy.callee c.params c.args cs vs n (length t'.cells) d.size d.args t t' en l.cells.size copy.size copy.args given placed l)

  -- an object gets its initial contents
  begun_like : (owner : OwnerTree) (t : TypeTree) (init : InitTree) (n : ℕ) (r : Option ℤ) (s : Store) (s' : FlatStore) → n - 1 ≡ length below → IsBegun gs f owner t init → Like gs fs s s'
      → LikeOutcome P f below (act_init owner t init n r s) (flat_after (flat_begins base (flat_writes gs f t (variable_slot gs f (object owner t)) init) s') (λ x u. leaves next r u))
  begun_like (global_owner a) t init n r s s' same fit like = absurd fit
  begun_like (local_owner a k) t init n r s s' same fit like =
      subst (λ (h : ℕ). LikeOutcome P f below (after_value (initialise h init t (object_spot h (local_owner a k) t) s) (λ v u. the.leaves next r u)) (flat_after (flat_begins base (flat_writes gs f t (variable_slot gs f (object (local_owner a k) t)) init) s') (λ x u. leaves next r u))) (sym same)
      (after_like (init_like gs sized f below (omega arith) init t (object_spot (length below) (local_owner a k) t) (variable_slot gs f (object (local_owner a k) t)) s s' fit.3 fit.1.arrays fit.2 refl there like)
      (λ x y u u' e l. both_leave l))
    where
      at : Option Inside
      at = place_in (objects_of f) a k

      there : slot_of (live gs fs) (record { root = local_root (length below) a k; path = [] }) ≡ Some (inside_at (base + slot_or at) (plain t))
      there =
          let place = fit.0 in
          let lives = local_lives gs sized f below a k place.0 (plain t) place.1 in
          root_slot (live gs fs) (local_root (length below) a k) (inside_at (base + place.0) (plain t)) lives
          ∙ ap (λ m. let o : Option Inside = Some (inside_at (base + m) (plain t)) in o) (sym (ap slot_or place.1))

  branch_like : (b : Bool) (r : Option ℤ) (t : Store) (t' : FlatStore) → Like gs fs t t' → LikeOutcome P f below (the.leaves (if b then on_false else on_true) r t) (leaves (if b then on_false else on_true) r t')
  branch_like b r t t' l = both_leave l

  copied_like : (l : LabelTree) (m : FlatLabel) (n : ℕ) (r : Option ℤ) (s : Store) (s' : FlatStore) → n ≡ length fs → n - 1 ≡ length below → FitsLabel P f l → IsFlat P f l m → Like gs fs s s' → LikeOutcome P f below (act l n r s) (flat_act m n base r s')
  copied_like enters m n r s s' en same fit copy like = subst (λ k. LikeOutcome P f below (act enters n r s) (flat_act k n base r s')) (sym copy) (both_leave like)
  copied_like (exits rule) m n r s s' en same fit copy like = subst (λ k. LikeOutcome P f below (act (exits rule) n r s) (flat_act k n base r s')) (sym copy) (exit_like rule n r s s' same fit like)
  copied_like (evaluates e) m n r s s' en same fit copy like =
      subst (λ k. LikeOutcome P f below (act (evaluates e) n r s) (flat_act k n base r s')) (sym copy) (after_same (eval_like (n - 1) e s s' same fit like) (λ v u u' l. both_leave l))
  copied_like (initialises owner t init) m n r s s' en same fit copy like =
      subst (λ k. LikeOutcome P f below (act (initialises owner t init) n r s) (flat_act k n base r s')) (sym copy) (begun_like owner t init n r s s' same fit like)
  copied_like (branches e) m n r s s' en same fit copy like =
      subst (λ k. LikeOutcome P f below (act (branches e) n r s) (flat_act k n base r s')) (sym copy) (after_same (eval_like (n - 1) e s s' same fit like) (λ v u u' l. branch_like (int_eq v (pos 0)) r u u' l))
  copied_like (switches e) m n r s s' en same fit copy like =
      subst (λ k. LikeOutcome P f below (act (switches e) n r s) (flat_act k n base r s')) (sym copy) (after_same (eval_like (n - 1) e s s' same fit like) (λ v u u' l. both_give l))
  copied_like (returns None) m n r s s' en same fit copy like = subst (λ k. LikeOutcome P f below (act (returns None) n r s) (flat_act k n base r s')) (sym copy) (both_leave like)
  copied_like (returns (Some a)) m n r s s' en same fit copy like =
      subst (λ k. LikeOutcome P f below (act (returns (Some a)) n r s) (flat_act k n base r s')) (sym copy) (after_same (eval_like (n - 1) a.value s s' same fit like) (λ v u u' l. both_leave l))
  copied_like jumps m n r s s' en same fit copy like = subst (λ k. LikeOutcome P f below (act jumps n r s) (flat_act k n base r s')) (sym copy) (both_leave like)
  copied_like (halts e) m n r s s' en same fit copy like =
      subst (λ k. LikeOutcome P f below (act (halts e) n r s) (flat_act k n base r s')) (sym copy)
      (after_same (eval_like (n - 1) e s s' same fit like) (λ v u u' l. both_end (record { input = l.input; output = l.output })))
  copied_like (calls c) m n r s s' en same fit copy like =
      subst (λ k. LikeOutcome P f below (act (calls c) n r s) (flat_act k n base r s')) (sym copy.1) (call_like c copy.0 n s s' en same fit copy.2 like)

  -- the act of a label, and that of its copy
  pub act_like : (l : LabelTree) (m : FlatLabel) (r : Option ℤ) (s : Store) (s' : FlatStore) → FitsLabel P f l → IsFlat P f l m → Like gs fs s s' → LikeOutcome P f below (act l (length below + 1) r s) (flat_act m (length below + 1) base r s')
  act_like l m r s s' fit copy like = copied_like l m (length below + 1) r s s' (omega arith) (omega arith) fit copy like

-- what alike outcomes are, by the outcome over slots
module _ (P : ProgramTree) (f : FunctionTree) (below : List FunctionTree) where
  -- control leaves alike
  pub record Left (o : the.Outcome) (x : ExitTree) (r : Option ℤ) (s' : FlatStore) : Type 0 where
    pub store : Store
    pub is : o ≡ the.leaves x r store
    pub like : Like (globals_of P) (f ∷ below) store s'

  -- where the outcome over slots is that
  pub left : (o : the.Outcome) (o' : FlatOutcome) (x : ExitTree) (r : Option ℤ) (s' : FlatStore) → LikeOutcome P f below o o' → o' ≡ leaves x r s' → Left o x r s'
  left o o' x r s' (both_leave {x = y} {r = q} {s = s} {s' = t} l) e =
      let a : y ≡ x = cc in let b : q ≡ r = cc in let c : t ≡ s' = cc in
      record { store = s; is = ap (λ z. the.leaves z q s) a ∙ ap (λ z. the.leaves x z s) b; like = subst (Like (globals_of P) (f ∷ below) s) c l }
  left o o' x r s' (both_give l) e = let h : ⊥ = cc in absurd h
  left o o' x r s' (both_push d i b l) e = let h : ⊥ = cc in absurd h
  left o o' x r s' (both_pop l) e = let h : ⊥ = cc in absurd h
  left o o' x r s' (both_end l) e = let h : ⊥ = cc in absurd h

  -- a value is given alike
  pub record Valued (o : the.Outcome) (v : ℤ) (s' : FlatStore) : Type 0 where
    pub store : Store
    pub is : o ≡ the.gives v store
    pub like : Like (globals_of P) (f ∷ below) store s'

  -- where the outcome over slots is that
  pub valued : (o : the.Outcome) (o' : FlatOutcome) (v : ℤ) (s' : FlatStore) → LikeOutcome P f below o o' → o' ≡ gives v s' → Valued o v s'
  valued o o' v s' (both_leave l) e = let h : ⊥ = cc in absurd h
  valued o o' v s' (both_give {v = w} {s = s} {s' = t} l) e =
      let a : w ≡ v = cc in let b : t ≡ s' = cc in
      record { store = s; is = ap (λ z. the.gives z s) a; like = subst (Like (globals_of P) (f ∷ below) s) b l }
  valued o o' v s' (both_push d i b l) e = let h : ⊥ = cc in absurd h
  valued o o' v s' (both_pop l) e = let h : ⊥ = cc in absurd h
  valued o o' v s' (both_end l) e = let h : ⊥ = cc in absurd h

  -- a frame of the callee comes on top alike
  pub record Pushed (o : the.Outcome) (n b : ℕ) (s' : FlatStore) : Type 0 where
    pub store : Store
    pub name : Name
    pub callee : FunctionTree
    pub is : o ≡ the.pushes name store
    pub defined : function_of P name ≡ Some callee
    pub entry : IsEntry P name n
    pub base : b ≡ live_size (globals_of P) (f ∷ below)
    pub like : Like (globals_of P) (callee ∷ f ∷ below) store s'

  -- where the outcome over slots is that
  pub pushed : (o : the.Outcome) (o' : FlatOutcome) (n b : ℕ) (s' : FlatStore) → LikeOutcome P f below o o' → o' ≡ pushes n b s' → Pushed o n b s'
  pushed o o' n b s' (both_leave l) e = let h : ⊥ = cc in absurd h
  pushed o o' n b s' (both_give l) e = let h : ⊥ = cc in absurd h
  pushed o o' n b s' (both_push {g = g} {callee = k} {e = m} {b = c} {s = s} {s' = t} d i h l) e =
      let p : m ≡ n = cc in let q : c ≡ b = cc in let u : t ≡ s' = cc in
      record { store = s; name = g; callee = k; is = refl; defined = d; entry = subst (IsEntry P g) p i; base = sym q ∙ h; like = subst (Like (globals_of P) (k ∷ f ∷ below) s) u l }
  pushed o o' n b s' (both_pop l) e = let h : ⊥ = cc in absurd h
  pushed o o' n b s' (both_end l) e = let h : ⊥ = cc in absurd h

  -- the top frame goes alike
  pub record Popped (o : the.Outcome) (r : Option ℤ) (s' : FlatStore) : Type 0 where
    pub store : Store
    pub is : o ≡ the.pops r store
    pub like : Like (globals_of P) below store s'

  -- where the outcome over slots is that
  pub popped : (o : the.Outcome) (o' : FlatOutcome) (r : Option ℤ) (s' : FlatStore) → LikeOutcome P f below o o' → o' ≡ pops r s' → Popped o r s'
  popped o o' r s' (both_leave l) e = let h : ⊥ = cc in absurd h
  popped o o' r s' (both_give l) e = let h : ⊥ = cc in absurd h
  popped o o' r s' (both_push d i b l) e = let h : ⊥ = cc in absurd h
  popped o o' r s' (both_pop {r = q} {s = s} {s' = t} l) e =
      let b : q ≡ r = cc in let c : t ≡ s' = cc in
      record { store = s; is = ap (λ z. the.pops z s) b; like = subst (Like (globals_of P) below s) c l }
  popped o o' r s' (both_end l) e = let h : ⊥ = cc in absurd h

  -- the run ends with one status and one output
  pub record Ended (o : the.Outcome) (t : Status) (s' : FlatStore) : Type 0 where
    pub store : Store
    pub is : o ≡ the.ends t store
    pub text : SameText store s'

  -- where the outcome over slots is that
  pub ended : (o : the.Outcome) (o' : FlatOutcome) (t : Status) (s' : FlatStore) → LikeOutcome P f below o o' → o' ≡ ends t s' → Ended o t s'
  ended o o' t s' (both_leave l) e = let h : ⊥ = cc in absurd h
  ended o o' t s' (both_give l) e = let h : ⊥ = cc in absurd h
  ended o o' t s' (both_push d i b l) e = let h : ⊥ = cc in absurd h
  ended o o' t s' (both_pop l) e = let h : ⊥ = cc in absurd h
  ended o o' t s' (both_end {t = u} {s = s} {s' = v} l) e =
      let b : u ≡ t = cc in let c : v ≡ s' = cc in
      record { store = s; is = ap (λ z. the.ends z s) b; text = subst (SameText s) c l }
