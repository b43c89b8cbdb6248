-- What is done at a point, over slots.
use Rattle.std.specs.Prelude.{ℕ, zero, suc, ◌+◌, ◌++◌, min, ℤ, pos, List, [], ◌∷◌, length, take, replicate, slice_set}
use Rattle.std.specs.Prelude.{Option, Some, None, nat_le, if◌then◌else◌}
use Rattle.std.specs.Ordering.{int_eq}
use Rattle.csub_types.specs.declared.trap.Trap.TheVariants.{Depth, Missing}
use Rattle.csub_types.specs.Kinds.{convert}
use Rattle.csub_semantics.specs.declared.label.EndRule.{EndRule}
use Rattle.csub_semantics.specs.declared.label.EndRule.TheVariants.{Nothing, Value, Main, Start}
use Rattle.csub_semantics.specs.declared.status.Status.{Status}
use Rattle.csub_semantics.specs.declared.status.Status.TheVariants.{Exit, Trap}
use Rattle.csub_semantics.specs.Trees.{reading, variable}
use Rattle.csub_semantics.specs.Points.{ExitTree, next, on_true, on_false}
use Rattle.csub_semantics.specs.Memory.{State, Answer, value, trapped, then_do, low_byte}
use Rattle.csub_semantics.specs.Evaluation.{locate, eval}
use Rattle.csub_semantics.specs.Acts.{most_frames}
use Rattle.csub_slots.specs.Layout.{Slot, empty, holding, referring}
use Rattle.csub_flat.specs.Trees.{FlatVariable, FlatGiven, number_of, array_at, FlatArg, FlatCall, FlatWrite, writes, clears}
use Rattle.csub_flat.specs.Trees.{FlatLabel, goes_on, leaves_by, does, begins, tests, chooses, answers, halts, enters_callee}
use Rattle.csub_slots.specs.Memory.{FlatSpot, most_referred, flat}

-- input left, output so far and slots
abbrev pub FlatStore : Type 0
FlatStore = State (List Slot)

-- what an act leads to
pub data FlatOutcome : Type 0 where
  -- control leaves along a way out; the frame has this result from now on
  leaves : ExitTree → Option ℤ → FlatStore → FlatOutcome
  -- the value of a `switch`, which decides its way out
  gives : ℤ → FlatStore → FlatOutcome
  -- a frame at this entry comes on top, whose slots begin there
  pushes : ℕ → ℕ → FlatStore → FlatOutcome
  -- the top frame goes, with its result
  pops : Option ℤ → FlatStore → FlatOutcome
  -- the run ends
  ends : Status → FlatStore → FlatOutcome

-- goes on with a value; a trap ends the run
abbrev pub flat_after : {X : Type 0} → Answer X FlatStore → (X → FlatStore → FlatOutcome) → FlatOutcome
flat_after (value v s) go = go v s
flat_after (trapped t s) go = ends (Trap t) s

-- a reference to the array at a spot
abbrev pub referring_to : FlatSpot → Slot
referring_to l = referring (min l.slot most_referred) l.form.length

-- what an argument gives to its parameter: a number in the declared kind (C11 6.5.2.2p7), or a reference to an array
abbrev pub flat_given_slot : ℕ → FlatGiven → FlatStore → Answer Slot FlatStore
flat_given_slot base (number_of k e) s = then_do (eval (flat base) e s) (λ v t. value (holding (convert k v)) t)
flat_given_slot base (array_at p) s = then_do (locate (flat base) p s) (λ l t. value (referring_to l) t)

-- the arguments of a call, from left to right
abbrev pub flat_arguments : ℕ → List FlatArg → FlatStore → Answer (List Slot) FlatStore
flat_arguments base [] s = value [] s
flat_arguments base (a ∷ args) s =
    then_do (flat_given_slot base a.given s) (λ v t. then_do (flat_arguments base args t) (λ vs u. value (v ∷ vs) u))

-- the slots of parameters get what arguments give, in order
abbrev pub flat_entered : ℕ → List FlatArg → List Slot → List Slot → List Slot
flat_entered base [] vs slots = slots
flat_entered base (a ∷ args) [] slots = slots
flat_entered base (a ∷ args) (v ∷ vs) slots = flat_entered base args vs (slice_set slots (base + a.slot) v)

-- 0 in so many slots, from one on
abbrev pub flat_cleared : ℕ → ℕ → List Slot → List Slot
flat_cleared at zero slots = slots
flat_cleared at (suc n) slots = flat_cleared (at + 1) n (slice_set slots at (holding (pos 0)))

-- a step of an initialiser: a number goes to its slot in the declared kind (C11 6.7.9p11), or 0 to all that it leaves out
-- (p21)
abbrev pub flat_write : ℕ → FlatWrite → FlatStore → Answer (Unit {0}) FlatStore
flat_write base (writes at k e) s =
    then_do (eval (flat base) e s) (λ v t. value tt (record t { cells = slice_set t.cells (base + at) (holding (convert k v)) }))
flat_write base (clears at n) s = value tt (record s { cells = flat_cleared (base + at) n s.cells })

-- the steps of an initialiser, in order
abbrev pub flat_begins : ℕ → List FlatWrite → FlatStore → Answer (Unit {0}) FlatStore
flat_begins base [] s = value tt s
flat_begins base (w ∷ steps) s = then_do (flat_write base w s) (λ x t. flat_begins base steps t)

-- a call where n frames stand: its arguments, then the trap `depth` or a frame of empty slots with its parameters
abbrev pub flat_call : FlatCall → ℕ → ℕ → FlatStore → FlatOutcome
flat_call c n base s =
    flat_after (flat_arguments base c.args s)
    (λ vs t. if nat_le most_frames n then ends (Trap Depth) t
    else pushes c.entry (length t.cells) (record t { cells = flat_entered (length t.cells) c.args vs (t.cells ++ replicate c.size empty) }))

-- the top frame goes with its slots
abbrev pub flat_leave : ℕ → Option ℤ → FlatStore → FlatOutcome
flat_leave base r s = pops r (record s { cells = take base s.cells })

-- the end of a function; that of `#start` has its first temporary, which holds what `main` gave
abbrev pub flat_exit : EndRule → FlatVariable → ℕ → Option ℤ → FlatStore → FlatOutcome
flat_exit Nothing v base r s = flat_leave base r s
flat_exit Value v base None s = ends (Trap Missing) s
flat_exit Value v base (Some w) s = flat_leave base (Some w) s
flat_exit Main v base None s = flat_leave base (Some (pos 0)) s
flat_exit Main v base (Some w) s = flat_leave base (Some w) s
flat_exit Start v base r s = flat_after (eval (flat base) (reading (variable v)) s) (λ w t. ends (Exit (low_byte w)) t)

-- the act of a label for the top one of n frames, whose slots begin at a base, and which has this result
abbrev pub flat_act : FlatLabel → ℕ → ℕ → Option ℤ → FlatStore → FlatOutcome
flat_act goes_on n base r s = leaves next r s
flat_act (leaves_by rule v) n base r s = flat_exit rule v base r s
flat_act (does e) n base r s = flat_after (eval (flat base) e s) (λ v t. leaves next r t)
flat_act (begins steps) n base r s = flat_after (flat_begins base steps s) (λ x t. leaves next r t)
flat_act (tests e) n base r s = flat_after (eval (flat base) e s) (λ v t. leaves (if int_eq v (pos 0) then on_false else on_true) r t)
flat_act (chooses e) n base r s = flat_after (eval (flat base) e s) gives
flat_act (answers k e) n base r s = flat_after (eval (flat base) e s) (λ v t. leaves next (Some (convert k v)) t)
flat_act (halts e) n base r s = flat_after (eval (flat base) e s) (λ v t. ends (Exit (low_byte v)) t)
flat_act (enters_callee c) n base r s = flat_call c n base s

-- a result goes into the temporary's slot
abbrev pub flat_result : ℕ → Option ℕ → Option ℤ → FlatStore → FlatStore
flat_result base None r s = s
flat_result base (Some k) None s = s
flat_result base (Some k) (Some v) s = record s { cells = slice_set s.cells (base + k) (holding v) }
