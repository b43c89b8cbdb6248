-- What is done at a point. An act reads the label, the number of frames, the top frame's result and the store: no
-- point and no other part of the program, so equal labels act alike.
use Rattle.std.specs.Prelude.{ℕ, ◌-◌, ℤ, pos, List, [], ◌∷◌, Option, Some, None, nat_le, if◌then◌else◌}
use Rattle.std.specs.Ordering.{int_eq}
use Rattle.csub_types.specs.declared.kind.IntKind.TheVariants.{Int}
use Rattle.csub_types.specs.declared.trap.Trap.TheVariants.{Depth, Missing}
use Rattle.csub_types.specs.Kinds.{convert}
use Rattle.csub_semantics.specs.declared.label.EndRule.{EndRule}
use Rattle.csub_semantics.specs.declared.label.EndRule.TheVariants.{Nothing, Value, Main, Start}
use Rattle.csub_semantics.specs.declared.status.Status.{Status}
use Rattle.csub_semantics.specs.declared.status.Status.TheVariants.{Exit, Trap}
use Rattle.csub_objects.specs.Types.{Name, TypeTree, number_kind, MemberTree}
use Rattle.csub_semantics.specs.Trees.{NamedArg, value_argument, array_argument, reading, variable, temporary, OwnerTree}
use Rattle.csub_semantics.specs.Labels.{LabelTree, enters, exits, evaluates, initialises, branches, switches, returns, jumps, halts}
use Rattle.csub_semantics.specs.Labels.{calls, AnswerTree, CallTree, InitTree}
use Rattle.csub_semantics.specs.Points.{ExitTree, next, on_true, on_false}
use Rattle.csub_semantics.specs.Memory.{State, Answer, value, trapped, then_do, low_byte}
use Rattle.csub_semantics.specs.Evaluation.{locate, eval}
use Rattle.csub_semantics.specs.Cells.{Cells, Content, number, reference, Spot, named, dropped, entered}
use Rattle.csub_semantics.specs.Initialising.{initialise, object_spot}

-- input left, output so far and named cells
abbrev pub Store : Type 0
Store = State Cells

-- what an act leads to
pub data Outcome : Type 0 where
  -- control leaves along a way out; the frame has this result from now on
  leaves : ExitTree → Option ℤ → Store → Outcome
  -- the value of a switch, which decides its way out
  gives : ℤ → Store → Outcome
  -- a frame of this function comes on top
  pushes : Name → Store → Outcome
  -- the top frame goes, with its result
  pops : Option ℤ → Store → Outcome
  -- the run ends
  ends : Status → Store → Outcome

-- goes on with a value; a trap ends the run
abbrev pub after_value : {X : Type 0} → Answer X Store → (X → Store → Outcome) → Outcome
after_value (value v s) go = go v s
after_value (trapped t s) go = ends (Trap t) s

-- a reference to the array at a place, whose length goes with it
abbrev pub reference_to : Spot → Content
reference_to l = reference l.cell l.length

-- what an argument gives to its parameter: a number in the declared kind (C11 6.5.2.2p7), or a reference to an array
abbrev pub argument_content : ℕ → MemberTree → NamedArg → Store → Answer Content Store
argument_content h p (value_argument e) s = then_do (eval (named h) e s) (λ v t. value (number (convert (number_kind p.ctype) v)) t)
argument_content h p (array_argument a) s = then_do (locate (named h) a s) (λ l t. value (reference_to l) t)

-- the arguments of a call, from left to right
abbrev pub argument_contents : ℕ → List MemberTree → List NamedArg → Store → Answer (List Content) Store
argument_contents h [] args s = value [] s
argument_contents h (p ∷ params) [] s = value [] s
argument_contents h (p ∷ params) (a ∷ args) s =
    then_do (argument_content h p a s) (λ c t. then_do (argument_contents h params args t) (λ cs u. value (c ∷ cs) u))

-- how many frames a run may have
abbrev pub most_frames : ℕ
most_frames = 256

-- a call where n frames stand: its arguments, then the trap `depth` or a new frame with its parameters
abbrev pub act_call : CallTree → ℕ → Store → Outcome
act_call c n s =
    after_value (argument_contents (n - 1) c.params c.args s)
    (λ cs t. if nat_le most_frames n then ends (Trap Depth) t else pushes c.callee (record t { cells = entered n c.params cs t.cells }))

-- the top frame of n goes with its cells
abbrev pub leave_frame : ℕ → Option ℤ → Store → Outcome
leave_frame n r s = pops r (record s { cells = dropped (n - 1) s.cells })

-- the end of a function, where n frames stand; of a value that no `return` gave C leaves only the use undefined (C11 6.9.1p12),
-- and here the end itself traps
abbrev pub act_exit : EndRule → ℕ → Option ℤ → Store → Outcome
act_exit Nothing n r s = leave_frame n r s
act_exit Value n None s = ends (Trap Missing) s
act_exit Value n (Some v) s = leave_frame n (Some v) s
act_exit Main n None s = leave_frame n (Some (pos 0)) s
act_exit Main n (Some v) s = leave_frame n (Some v) s
act_exit Start n r s =
    after_value (eval (named (n - 1)) (reading (variable (temporary 1 Int))) s) (λ v t. ends (Exit (low_byte v)) t)

-- a return, which may give the frame a result, converted to the function's result type
abbrev pub act_return : Option AnswerTree → ℕ → Option ℤ → Store → Outcome
act_return None n r s = leaves next r s
act_return (Some a) n r s = after_value (eval (named (n - 1)) a.value s) (λ v t. leaves next (Some (convert a.kind v)) t)

-- an initialiser of an object
abbrev pub act_init : OwnerTree → TypeTree → InitTree → ℕ → Option ℤ → Store → Outcome
act_init owner t init n r s = after_value (initialise (n - 1) init t (object_spot (n - 1) owner t) s) (λ v u. leaves next r u)

abbrev pub act : LabelTree → ℕ → Option ℤ → Store → Outcome
act enters n r s = leaves next r s
act (exits rule) n r s = act_exit rule n r s
act (evaluates e) n r s = after_value (eval (named (n - 1)) e s) (λ v t. leaves next r t)
act (initialises owner t init) n r s = act_init owner t init n r s
act (branches e) n r s =
    after_value (eval (named (n - 1)) e s) (λ v t. leaves (if int_eq v (pos 0) then on_false else on_true) r t)
act (switches e) n r s = after_value (eval (named (n - 1)) e s) gives
act (returns answer) n r s = act_return answer n r s
act jumps n r s = leaves next r s
act (halts e) n r s = after_value (eval (named (n - 1)) e s) (λ v t. ends (Exit (low_byte v)) t)
act (calls c) n r s = act_call c n s
