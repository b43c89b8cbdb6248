-- The outcome of an act fits its label, and what a fitting outcome says of its label.
use Rattle.std.proofs.Common.{◌≡◌, ◌≢◌, ℕ, ◌-◌, ℤ, pos, Bool, true, false, Option, Some, None, nat_le, int_eq, refl, inl, inr, if◌then◌else◌}
use Rattle.csub_semantics.specs.declared.label.EndRule.{EndRule}
use Rattle.csub_semantics.specs.declared.label.EndRule.TheVariants.{Nothing, Value, Main, Start}
use Rattle.csub_types.specs.declared.trap.Trap.TheVariants.{Depth}
use Rattle.csub_types.specs.declared.kind.IntKind.TheVariants.{Int}
use Rattle.csub_semantics.specs.declared.status.Status.{Status}
use Rattle.csub_semantics.specs.declared.status.Status.TheVariants.{Exit, Trap}
use Rattle.csub_objects.specs.Types.{Name}
use Rattle.csub_semantics.specs.Trees.{NamedExpr, reading, variable, temporary}
use Rattle.csub_semantics.specs.Labels.{LabelTree, enters, exits, evaluates, initialises, branches, switches, returns, jumps, halts, calls, CallTree, call_of}
use Rattle.csub_semantics.specs.Points.{ExitTree, on_true, on_false}
use Rattle.csub_semantics.specs.Memory.{Answer, value, trapped, low_byte}
use Rattle.csub_semantics.specs.Evaluation.{eval}
use Rattle.csub_semantics.specs.Cells.{named, entered}
use Rattle.csub_semantics.specs.Initialising.{initialise, object_spot}
use Rattle.csub_semantics.specs.Acts.{Store, Outcome, leaves, gives, pushes, pops, ends, after_value, argument_contents, most_frames, act_exit, act}
use Rattle.program_laws.specs.Outcomes.{Ends, LeavesBy, Gives, Pushes, Pops, IsNext, IsOfTest, Fits}

-- where all that may follow a value fits, and the end by a trap does, all fits
fits_after : {X : Type 0} (Q : Outcome → Type 0) (a : Answer X Store) (go : X → Store → Outcome) → ((v : X) (s : Store) → Q (go v s)) → ((t : Status) (s : Store) → Q (ends t s)) → Q (after_value a go)
fits_after Q (value v s) go each trap = each v s
fits_after Q (trapped t s) go each trap = trap (Trap t) s

of_test : (b : Bool) → IsOfTest (if b then on_false else on_true)
of_test true = inr refl
of_test false = inl refl

pushed : (g : Name) (deep : Bool) (s t : Store) → Pushes g (if deep then ends (Trap Depth) s else pushes g t)
pushed g true s t = tt
pushed g false s t = refl

fits_end : (rule : EndRule) (n : ℕ) (r : Option ℤ) (s : Store) → Pops rule (act_exit rule n r s)
fits_end Nothing n r s = λ e. cc
fits_end Value n None s = tt
fits_end Value n (Some v) s = λ e. cc
fits_end Main n None s = λ e. cc
fits_end Main n (Some v) s = λ e. cc
fits_end Start n r s = fits_after (Pops Start) (eval (named (n - 1)) (reading (variable (temporary 1 Int))) s) (λ v t. ends (Exit (low_byte v)) t) (λ v t. tt) (λ t u. tt)

-- the outcome of an act fits its label
pub fits : (l : LabelTree) (n : ℕ) (r : Option ℤ) (s : Store) → Fits l (act l n r s)
fits enters n r s = refl
fits (exits rule) n r s = fits_end rule n r s
fits (evaluates e) n r s = fits_after (LeavesBy IsNext) (eval (named (n - 1)) e s) _ (λ v t. refl) (λ t u. tt)
fits (initialises owner t init) n r s =
    fits_after (LeavesBy IsNext) (initialise (n - 1) init t (object_spot (n - 1) owner t) s) _ (λ v u. refl) (λ t u. tt)
fits (branches e) n r s = fits_after (LeavesBy IsOfTest) (eval (named (n - 1)) e s) _ (λ v t. of_test (int_eq v (pos 0))) (λ t u. tt)
fits (switches e) n r s = fits_after Gives (eval (named (n - 1)) e s) gives (λ v t. tt) (λ t u. tt)
fits (returns None) n r s = refl
fits (returns (Some a)) n r s = fits_after (LeavesBy IsNext) (eval (named (n - 1)) a.value s) _ (λ v t. refl) (λ t u. tt)
fits jumps n r s = refl
fits (halts e) n r s = fits_after Ends (eval (named (n - 1)) e s) (λ v t. ends (Exit (low_byte v)) t) (λ v t. tt) (λ t u. tt)
fits (calls c) n r s = fits_after (Pushes c.callee) (argument_contents (n - 1) c.params c.args s) _ (λ cs t. pushed c.callee (nat_le most_frames n) t (record t { cells = entered n c.params cs t.cells })) (λ t u. tt)

-- a value that decides a way out is that of a `switch`
pub gives_by_switch : (l : LabelTree) (v : ℤ) (s : Store) → Fits l (gives v s) → (e : NamedExpr) × (l ≡ switches e)
gives_by_switch (switches e) v s fit = (e, refl)
gives_by_switch _ v s fit = absurd fit

-- what control leaves along a way out calls nothing
pub leaves_no_call : (l : LabelTree) (x : ExitTree) (r : Option ℤ) (s : Store) → Fits l (leaves x r s) → call_of l ≡ None
leaves_no_call (calls c) x r s fit = absurd fit
leaves_no_call _ x r s fit = refl

-- and neither does what gives a value
pub gives_no_call : (l : LabelTree) (v : ℤ) (s : Store) → Fits l (gives v s) → call_of l ≡ None
gives_no_call (calls c) v s fit = absurd fit
gives_no_call _ v s fit = refl

-- a frame comes on top by a call of its function alone
pub pushes_by_call : (l : LabelTree) (g : Name) (s : Store) → Fits l (pushes g s) → (c : CallTree) × (call_of l ≡ Some c) × (g ≡ c.callee)
pushes_by_call (calls c) g s fit = (c, refl, fit)
pushes_by_call _ g s fit = absurd fit

-- and the top frame goes by an exit alone, which isn't that of `#start`
pub pops_by_exit : (l : LabelTree) (r : Option ℤ) (s : Store) → Fits l (pops r s) → (rule : EndRule) × (l ≡ exits rule) × (rule ≢ Start)
pops_by_exit (exits rule) r s fit = (rule, refl, fit)
pops_by_exit _ r s fit = absurd fit
