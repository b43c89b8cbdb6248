-- No run writes more than a run may, nor anything but bytes, nor takes more turns than its budget.
use Rattle.std.proofs.Common.{◌≡◌, ℕ, zero, suc, ◌+◌, ◌-◌, ◌^◌, ◌<◌, ◌≤◌, ℤ, pos, negsuc, List, [], ◌∷◌, ◌++◌, length, Bool, true, false, Option, Some, None, Result, Ok, Err, nat_lt, nat_le, int_eq, All, refl, sym, subst, arith, length-append, if◌then◌else◌}
use Rattle.std.proofs.lemmas.Bool.{ltb-true}
use Rattle.std.proofs.lemmas.List.Elements.{All-nil, All-cons, All-append, All-head, All-tail}
use Rattle.std.specs.Fmt.{signed_decimal}
use Rattle.std.specs.Str.{IsAscii}
use Rattle.std.specs.Int.{cast_signed, w32}
use Rattle.std.specs.Int.Signed.{mag}
use Rattle.std.proofs.Math.Facts.{sfits_to_z}
use Rattle.std.proofs.lemmas.Fmt.{IsAscii-signed}
use Rattle.csub_text.specs.declared.operator.BinOp.TheVariants.{Add}
use Rattle.csub_text.specs.declared.operator.StepOp.{StepOp}
use Rattle.csub_types.specs.declared.kind.IntKind.TheVariants.{Int, Unsigned}
use Rattle.csub_types.specs.declared.trap.Trap.{Trap as TrapKind}
use Rattle.csub_types.specs.declared.trap.Trap.TheVariants.{Depth, Flood}
use Rattle.csub_types.specs.Kinds.{convert, low_bits}
use Rattle.csub_semantics.specs.declared.expression.Piece.{Piece}
use Rattle.csub_semantics.specs.declared.expression.Piece.TheVariants.{Byte, Signed, Plain, Letter}
use Rattle.csub_semantics.specs.declared.label.EndRule.{EndRule}
use Rattle.csub_semantics.specs.declared.label.EndRule.TheVariants.{Nothing, Value, Main, Start}
use Rattle.csub_semantics.specs.declared.status.Status.TheVariants.{Trap, Turns}
use Rattle.csub_objects.specs.Types.{Name, TypeTree, number_type, array_type, struct_type, loose_type, MemberTree, MemberTrees, no_member, more_members}
use Rattle.csub_semantics.specs.Trees.{NamedPlace, NamedExpr, NamedArg, constant, reading, variable, element_place, member_place, temporary, unary_operation, conversion, stepping, operation, conjunction, disjunction, choice, assignment, update, input_byte, output_byte, formatted, NamedExprs, no_expr, more_exprs, value_argument, array_argument}
use Rattle.csub_semantics.specs.Labels.{LabelTree, enters, exits, evaluates, initialises, branches, switches, returns, jumps, halts, calls, InitTree, one_value, listed, InitTrees, no_init, more_inits, CallTree, call_of, PointLabel}
use Rattle.csub_semantics.specs.Points.{PointTree, ExitTree, next}
use Rattle.csub_semantics.specs.Flows.{Flow, Edge}
use Rattle.csub_semantics.specs.Memory.{Answer, value, trapped, then_do, given, found, get_byte, put_byte, put_bytes, low_byte, most_output}
use Rattle.csub_semantics.specs.Formats.{text_of}
use Rattle.csub_semantics.specs.Evaluation.{computed, fetch, step_by, step_value, is_index, indexed, locate, store, step, eval, eval_all}
use Rattle.csub_semantics.specs.Cells.{Spot, element_spot, member_spot, named, entered}
use Rattle.csub_semantics.specs.Initialising.{initialise, initialise_elements, initialise_members, object_spot}
use Rattle.csub_semantics.specs.Acts.{Store, Outcome, leaves, gives, pushes, pops, ends, after_value, argument_content, argument_contents, most_frames, act_exit, act}
use Rattle.csub_semantics.specs.Runs.{Frame, Turn, goes, stops, lost, cross, put_result, come_back, come_back_to, pop, follow, turn_at, turn_of, turn, Moment, running, ended, nowhere, after_turn, go_on, after, results_at, Results}
use Rattle.program_laws.specs.Bounds.{IsExitStatus, IsBounded, RunsAreBounded}

-- what was written is no more than a run may write, and bytes
abbrev IsShort : Store → Type 0
IsShort s = (length s.output ≤ most_output) × All (λ b. b < 256) s.output

below_256 : (v : ℤ) → low_byte v < 256
below_256 (pos n) = omega arith
below_256 (negsuc n) = omega arith

abbrev AreBytes : List ℕ → Type 0
AreBytes bs = All (λ b. b < 256) bs

-- what a format writes is bytes
ascii_bytes : (bs : List ℕ) → IsAscii bs → AreBytes bs
ascii_bytes [] h = All-nil (λ b. b < 256)
ascii_bytes (b ∷ bs) h = All-cons (λ c. c < 256) b bs (omega (arith, h 0)) (ascii_bytes bs (λ i. h (suc i)))

small_signed : (m : ℕ) → m < 2 ^ 32 → mag (cast_signed w32 m) < 2 ^ 63
small_signed m h = let fits = sfits_to_z {w = w32} {n = m} (record { fits = h }) in omega (arith, fits.sfits)

small_int : (v : ℤ) → mag (convert Int v) < 2 ^ 63
small_int (pos n) = small_signed (low_bits Int (pos n)) (omega arith)
small_int (negsuc n) = small_signed (low_bits Int (negsuc n)) (omega arith)

small_unsigned : (v : ℤ) → mag (convert Unsigned v) < 2 ^ 63
small_unsigned (pos n) = omega arith
small_unsigned (negsuc n) = omega arith

signed_bytes : (v : ℤ) → AreBytes (signed_decimal (convert Int v))
signed_bytes v = ascii_bytes (signed_decimal (convert Int v)) (IsAscii-signed (convert Int v) (small_int v))

plain_bytes : (v : ℤ) → AreBytes (signed_decimal (convert Unsigned v))
plain_bytes v = ascii_bytes (signed_decimal (convert Unsigned v)) (IsAscii-signed (convert Unsigned v) (small_unsigned v))

text_bytes : (pieces : List Piece) (vs : List ℤ) → AreBytes (text_of pieces vs)
text_bytes [] vs = All-nil (λ b. b < 256)
text_bytes (Byte b ∷ rest) vs = All-cons (λ c. c < 256) (low_byte (pos b)) (text_of rest vs) (below_256 (pos b)) (text_bytes rest vs)
text_bytes (Signed ∷ rest) [] = All-nil (λ b. b < 256)
text_bytes (Signed ∷ rest) (v ∷ vs) = All-append (λ c. c < 256) (signed_decimal (convert Int v)) (text_of rest vs) (signed_bytes v) (text_bytes rest vs)
text_bytes (Plain ∷ rest) [] = All-nil (λ b. b < 256)
text_bytes (Plain ∷ rest) (v ∷ vs) = All-append (λ c. c < 256) (signed_decimal (convert Unsigned v)) (text_of rest vs) (plain_bytes v) (text_bytes rest vs)
text_bytes (Letter ∷ rest) [] = All-nil (λ b. b < 256)
text_bytes (Letter ∷ rest) (v ∷ vs) = All-cons (λ c. c < 256) (low_byte v) (text_of rest vs) (below_256 v) (text_bytes rest vs)

abbrev LeavesShort : {X : Type 0} → Answer X Store → Type 0
LeavesShort (value v s) = IsShort s
LeavesShort (trapped t s) = IsShort s

short_then : {X Y : Type 0} (a : Answer X Store) (go : X → Store → Answer Y Store) → LeavesShort a → ((v : X) (s : Store) → IsShort s → LeavesShort (go v s)) → LeavesShort (then_do a go)
short_then (value v s) go short each = each v s short
short_then (trapped t s) go short each = short

short_if : {X : Type 0} (test : Bool) (a b : Answer X Store) → LeavesShort a → LeavesShort b → LeavesShort (if test then a else b)
short_if true a b first second = first
short_if false a b first second = second

short_pick : (b : ℕ) (s : Store) (small : Bool) → b < 256 → nat_lt (length s.output) most_output ≡ small → IsShort s →
    LeavesShort {X = Unit {0}} (if small then value tt (record s { output = s.output ++ b ∷ [] }) else trapped Flood s)
short_pick b s true byte is short =
    let below : length s.output < most_output = ltb-true (length s.output) most_output is in
    let grown : length (s.output ++ b ∷ []) ≡ length s.output + 1 = length-append s.output (b ∷ []) in
    (subst (λ n. n ≤ most_output) (sym grown) (omega (arith, below)), All-append (λ c. c < 256) s.output (b ∷ []) short.1 (All-cons (λ c. c < 256) b [] byte (All-nil (λ c. c < 256))))
short_pick b s false byte is short = short

short_put : (b : ℕ) (s : Store) → b < 256 → IsShort s → LeavesShort {X = Unit {0}} (put_byte b s)
short_put b s byte short = short_pick b s (nat_lt (length s.output) most_output) byte refl short

short_put_all : (bs : List ℕ) (s : Store) → AreBytes bs → IsShort s → LeavesShort {X = Unit {0}} (put_bytes bs s)
short_put_all [] s bytes short = short
short_put_all (b ∷ bs) s bytes short =
    short_then (put_byte b s) _ (short_put b s (All-head (λ c. c < 256) b bs bytes) short) (λ x t below. short_put_all bs t (All-tail (λ c. c < 256) b bs bytes) below)

short_found : {X : Type 0} (o : Option X) (s : Store) → IsShort s → LeavesShort (found o s)
short_found None s short = short
short_found (Some v) s short = short

short_given : (r : Result ℤ TrapKind) (s : Store) → IsShort s → LeavesShort (given r s)
short_given (Ok v) s short = short
short_given (Err t) s short = short

short_fetch : (h : ℕ) (l : Spot) (s : Store) → IsShort s → LeavesShort (fetch (named h) l s)
short_fetch h l s short = short_then (found ((named h).read l s.cells) s) _ (short_found ((named h).read l s.cells) s short) (λ v t below. below)

short_store : (h : ℕ) (l : Spot) (v : ℤ) (s : Store) → IsShort s → LeavesShort (store (named h) l v s)
short_store h l v s short = short

short_step : (h : ℕ) (op : StepOp) (l : Spot) (s : Store) → IsShort s → LeavesShort (step (named h) op l s)
short_step h op l s short =
    short_then (fetch (named h) l s) _ (short_fetch h l s short)
    (λ before t below. short_then (computed Add ((named h).kind l) before (step_by op) t) _ (short_given _ t below)
    (λ v u under. short_then (store (named h) l v u) (λ after w. value (step_value op before after) w) (short_store h l v u under) (λ after w deep. deep)))

short_input : (s : Store) (left : List ℕ) → IsShort s → LeavesShort (get_byte s left)
short_input s [] short = short
short_input s (b ∷ rest) short = short

short_indexed : (h : ℕ) (u : Unit {0}) (l : Spot) (v : ℤ) (s : Store) → IsShort s → LeavesShort (indexed (named h) u l v s)
short_indexed h u l v s short = short_if (is_index v ((named h).bound l)) _ _ short short

mutual
  short_locate : (h : ℕ) (p : NamedPlace) (s : Store) → IsShort s → LeavesShort (locate (named h) p s)
  short_locate h (variable v) s short = short_found ((named h).stand v s.cells) s short
  short_locate h (element_place u p e) s short =
      short_then (locate (named h) p s) _ (short_locate h p s short)
      (λ l t below. short_then (eval (named h) e t) _ (short_eval h e t below) (short_indexed h u l))
  short_locate h (member_place a p) s short = short_then (locate (named h) p s) _ (short_locate h p s short) (λ l t below. below)

  short_eval : (h : ℕ) (e : NamedExpr) (s : Store) → IsShort s → LeavesShort (eval (named h) e s)
  short_eval h (constant k v) s short = short
  short_eval h (reading p) s short = short_then (locate (named h) p s) _ (short_locate h p s short) (short_fetch h)
  short_eval h (unary_operation op k a) s short = short_then (eval (named h) a s) _ (short_eval h a s short) (λ v t below. short_given _ t below)
  short_eval h (conversion k a) s short = short_then (eval (named h) a s) _ (short_eval h a s short) (λ v t below. below)
  short_eval h (stepping op p) s short = short_then (locate (named h) p s) _ (short_locate h p s short) (short_step h op)
  short_eval h (operation op k a b) s short =
      short_then (eval (named h) a s) _ (short_eval h a s short)
      (λ v t below. short_then (eval (named h) b t) _ (short_eval h b t below) (λ w u under. short_given _ u under))
  short_eval h (conjunction a b) s short =
      short_then (eval (named h) a s) _ (short_eval h a s short)
      (λ v t below. short_if (int_eq v (pos 0)) _ _ below (short_then (eval (named h) b t) _ (short_eval h b t below) (λ w u under. under)))
  short_eval h (disjunction a b) s short =
      short_then (eval (named h) a s) _ (short_eval h a s short)
      (λ v t below. short_if (int_eq v (pos 0)) _ _ (short_then (eval (named h) b t) _ (short_eval h b t below) (λ w u under. under)) below)
  short_eval h (choice k c a b) s short =
      short_then (eval (named h) c s) _ (short_eval h c s short)
      (λ v t below.
      short_then (if int_eq v (pos 0) then eval (named h) b t else eval (named h) a t) _
      (short_if (int_eq v (pos 0)) _ _ (short_eval h b t below) (short_eval h a t below)) (λ w u under. under))
  short_eval h (assignment p e) s short =
      short_then (locate (named h) p s) _ (short_locate h p s short)
      (λ l t below. short_then (eval (named h) e t) _ (short_eval h e t below) (short_store h l))
  short_eval h (update p op k e) s short =
      short_then (locate (named h) p s) _ (short_locate h p s short)
      (λ l t below. short_then (fetch (named h) l t) _ (short_fetch h l t below)
      (λ v u under. short_then (eval (named h) e u) _ (short_eval h e u under)
      (λ w x deep. short_then (computed op k v w x) _ (short_given _ x deep) (short_store h l))))
  short_eval h input_byte s short = short_input s s.input short
  short_eval h (output_byte e) s short =
      short_then (eval (named h) e s) _ (short_eval h e s short) (λ v t below. short_then (put_byte (low_byte v) t) _ (short_put (low_byte v) t (below_256 v) below) (λ x u under. under))
  short_eval h (formatted pieces es) s short =
      short_then (eval_all (named h) es s) _ (short_all h es s short)
      (λ vs t below. short_then (put_bytes (text_of pieces vs) t) _ (short_put_all (text_of pieces vs) t (text_bytes pieces vs) below) (λ x u under. under))

  short_all : (h : ℕ) (es : NamedExprs) (s : Store) → IsShort s → LeavesShort (eval_all (named h) es s)
  short_all h no_expr s short = short
  short_all h (more_exprs e rest) s short =
      short_then (eval (named h) e s) _ (short_eval h e s short)
      (λ v t below. short_then (eval_all (named h) rest t) _ (short_all h rest t below) (λ vs u under. under))

mutual
  short_initialise : (h : ℕ) (init : InitTree) (t : TypeTree) (l : Spot) (s : Store) → IsShort s → LeavesShort (initialise h init t l s)
  short_initialise h (one_value e) t l s short =
      short_then (eval (named h) e s) _ (short_eval h e s short) (short_store h l)
  short_initialise h (listed xs) (number_type k) l s short = short
  short_initialise h (listed xs) (array_type t n) l s short = short_elements h xs t n 0 l s short
  short_initialise h (listed xs) (struct_type tag ms) l s short = short_members h xs ms l s short
  short_initialise h (listed xs) (loose_type t) l s short = short

  short_elements : (h : ℕ) (xs : InitTrees) (t : TypeTree) (n i : ℕ) (l : Spot) (s : Store) → IsShort s → LeavesShort (initialise_elements h xs t n i l s)
  short_elements h no_init t n i l s short = short
  short_elements h (more_inits x rest) t n i l s short =
      short_then (initialise h x t (element_spot l i) s) _ (short_initialise h x t (element_spot l i) s short) (λ v u below. short_elements h rest t n (i + 1) l u below)

  short_members : (h : ℕ) (xs : InitTrees) (ms : MemberTrees) (l : Spot) (s : Store) → IsShort s → LeavesShort (initialise_members h xs ms l s)
  short_members h no_init ms l s short = short
  short_members h (more_inits x rest) no_member l s short = short
  short_members h (more_inits x rest) (more_members a t ms) l s short =
      short_then (initialise h x t (member_spot l a) s) _ (short_initialise h x t (member_spot l a) s short) (λ v u below. short_members h rest ms l u below)

-- what an act leaves; a run ends with a status that is a byte
abbrev EndsShort : Outcome → Type 0
EndsShort (leaves x r s) = IsShort s
EndsShort (gives v s) = IsShort s
EndsShort (pushes g s) = IsShort s
EndsShort (pops r s) = IsShort s
EndsShort (ends t s) = IsShort s × IsExitStatus t

short_after : {X : Type 0} (a : Answer X Store) (go : X → Store → Outcome) → LeavesShort a → ((v : X) (s : Store) → IsShort s → EndsShort (go v s)) → EndsShort (after_value a go)
short_after (value v s) go short each = each v s short
short_after (trapped t s) go short each = (short, tt)

short_argument : (h : ℕ) (p : MemberTree) (a : NamedArg) (s : Store) → IsShort s → LeavesShort (argument_content h p a s)
short_argument h p (value_argument e) s short = short_then (eval (named h) e s) _ (short_eval h e s short) (λ v t below. below)
short_argument h p (array_argument a) s short = short_then (locate (named h) a s) _ (short_locate h a s short) (λ l t below. below)

short_arguments : (h : ℕ) (params : List MemberTree) (args : List NamedArg) (s : Store) → IsShort s → LeavesShort (argument_contents h params args s)
short_arguments h [] args s short = short
short_arguments h (p ∷ params) [] s short = short
short_arguments h (p ∷ params) (a ∷ args) s short =
    short_then (argument_content h p a s) _ (short_argument h p a s short)
    (λ c t below. short_then (argument_contents h params args t) _ (short_arguments h params args t below) (λ cs u under. under))

short_push : (deep : Bool) (g : Name) (s t : Store) → IsShort s → IsShort t → EndsShort (if deep then ends (Trap Depth) s else pushes g t)
short_push true g s t short below = (short, tt)
short_push false g s t short below = below

short_exit : (rule : EndRule) (n : ℕ) (r : Option ℤ) (s : Store) → IsShort s → EndsShort (act_exit rule n r s)
short_exit Nothing n r s short = short
short_exit Value n None s short = (short, tt)
short_exit Value n (Some v) s short = short
short_exit Main n None s short = short
short_exit Main n (Some v) s short = short
short_exit Start n r s short =
    short_after (eval (named (n - 1)) (reading (variable (temporary 1 Int))) s) _ (short_eval (n - 1) (reading (variable (temporary 1 Int))) s short) (λ v t below. (below, below_256 v))

short_act : (l : LabelTree) (n : ℕ) (r : Option ℤ) (s : Store) → IsShort s → EndsShort (act l n r s)
short_act enters n r s short = short
short_act (exits rule) n r s short = short_exit rule n r s short
short_act (evaluates e) n r s short = short_after (eval (named (n - 1)) e s) _ (short_eval (n - 1) e s short) (λ v t below. below)
short_act (initialises owner t init) n r s short =
    short_after (initialise (n - 1) init t (object_spot (n - 1) owner t) s) _ (short_initialise (n - 1) init t (object_spot (n - 1) owner t) s short) (λ v u below. below)
short_act (branches e) n r s short = short_after (eval (named (n - 1)) e s) _ (short_eval (n - 1) e s short) (λ v t below. below)
short_act (switches e) n r s short = short_after (eval (named (n - 1)) e s) gives (short_eval (n - 1) e s short) (λ v t below. below)
short_act (returns None) n r s short = short
short_act (returns (Some a)) n r s short = short_after (eval (named (n - 1)) a.value s) _ (short_eval (n - 1) a.value s short) (λ v t below. below)
short_act jumps n r s short = short
short_act (halts e) n r s short = short_after (eval (named (n - 1)) e s) _ (short_eval (n - 1) e s short) (λ v t below. (below, below_256 v))
short_act (calls c) n r s short =
    short_after (argument_contents (n - 1) c.params c.args s) _ (short_arguments (n - 1) c.params c.args s short)
    (λ cs t below. short_push (nat_le most_frames n) c.callee t (record t { cells = entered n c.params cs t.cells }) below below)

-- where a turn comes to
abbrev TurnsShort : Turn → Type 0
TurnsShort (goes c at) = IsShort at.store
TurnsShort (stops t s) = IsShort s × IsExitStatus t
TurnsShort lost = Unit {0}

short_cross : (top : Frame) (below : List Frame) (x : ExitTree) (r : Option ℤ) (s : Store) (to : Option PointTree) → IsShort s → TurnsShort (cross top below x r s to)
short_cross top below x r s None short = tt
short_cross top below x r s (Some q) short = short

short_result : (h : ℕ) (t : Option ℕ) (r : Option ℤ) (s : Store) → IsShort s → IsShort (put_result h t r s)
short_result h None r s short = short
short_result h (Some k) None s short = short
short_result h (Some k) (Some v) s short = short

short_back_to : (f : Frame) (below : List Frame) (r : Option ℤ) (s : Store) (call : Option CallTree) (to : Option PointTree) → IsShort s → TurnsShort (come_back_to f below r s call to)
short_back_to f below r s None to short = tt
short_back_to f below r s (Some c) to short =
    short_cross f below next f.result (put_result (length below) c.temp r s) to (short_result (length below) c.temp r s short)

short_back : (f : Frame) (below : List Frame) (r : Option ℤ) (s : Store) (l : Option PointLabel) (to : Option PointTree) → IsShort s → TurnsShort (come_back f below r s l to)
short_back f below r s None to short = tt
short_back f below r s (Some l) to short = short_back_to f below r s (call_of l.tree) to short

short_pop : (P : Flow) (below : List Frame) (r : Option ℤ) (s : Store) → IsShort s → TurnsShort (pop P below r s)
short_pop P [] r s short = tt
short_pop P (f ∷ below) r s short = short_back f below r s (P.label f.function f.point) (P.succ f.function f.point next) short

short_follow : (P : Flow) (top : Frame) (below : List Frame) (o : Outcome) → EndsShort o → TurnsShort (follow P top below o)
short_follow P top below (leaves x r s) short = short_cross top below x r s (P.succ top.function top.point x) short
short_follow P top below (gives v s) short = short_cross top below _ top.result s _ short
short_follow P top below (pushes g s) short = short
short_follow P top below (pops r s) short = short_pop P below r s short
short_follow P top below (ends t s) short = short

short_turn_at : (P : Flow) (top : Frame) (below : List Frame) (s : Store) (l : Option PointLabel) → IsShort s → TurnsShort (turn_at P top below s l)
short_turn_at P top below s None short = tt
short_turn_at P top below s (Some l) short =
    short_follow P top below (act l.tree (length below + 1) top.result s) (short_act l.tree (length below + 1) top.result s short)

short_turn : (P : Flow) (frames : List Frame) (s : Store) → IsShort s → TurnsShort (turn_of P frames s)
short_turn P [] s short = tt
short_turn P (top ∷ below) s short = short_turn_at P top below s (P.label top.function top.point) short

-- a moment after k turns: what was written is short, and a run that has ended took no more turns
abbrev IsBoundedAt : ℕ → Moment → Type 0
IsBoundedAt k (running es at) = IsShort at.store
IsBoundedAt k (ended es n t s) = IsShort s × (n ≤ k) × IsExitStatus t
IsBoundedAt k nowhere = Unit {0}

bounded_turn : (k : ℕ) (es : List Edge) (t : Turn) → TurnsShort t → IsBoundedAt (suc k) (after_turn k es t)
bounded_turn k es (goes c at) short = short
bounded_turn k es (stops t s) short = (short.0, omega arith, short.1)
bounded_turn k es lost short = tt

bounded_on : (P : Flow) (k : ℕ) (m : Moment) → IsBoundedAt k m → IsBoundedAt (suc k) (go_on P k m)
bounded_on P k (running es at) short = bounded_turn k es (turn P at) (short_turn P at.frames at.store short)
bounded_on P k (ended es n t s) h = (h.0, omega (arith, h.1), h.2)
bounded_on P k nowhere h = tt

bounded_after : (P : Flow) (input : List ℕ) (k : ℕ) → IsBoundedAt k (after P input k)
bounded_after P input zero = (omega arith, All-nil (λ b. b < 256))
bounded_after P input (suc k) = bounded_on P k (after P input k) (bounded_after P input k)

bounded_results : (k : ℕ) (m : Moment) (r : Results) → IsBoundedAt k m → results_at k m ≡ Some r → IsBounded k r
bounded_results k (running es at) r h is =
    let same : record { status = Turns; output = at.store.output; turns = k; crossed = es } ≡ r = cc in
    subst (IsBounded k) same (record { turns = omega arith; output = h.0; bytes = h.1; status = tt })
bounded_results k (ended es n t s) r h is =
    let same : record { status = t; output = s.output; turns = n; crossed = es } ≡ r = cc in
    subst (IsBounded k) same (record { turns = h.1; output = h.0.0; bytes = h.0.1; status = h.2 })
bounded_results k nowhere r h is = absurd (cc)

pub bounded : (P : Flow) → RunsAreBounded P
bounded P input budget r is = bounded_results budget (after P input budget) r (bounded_after P input budget) is
