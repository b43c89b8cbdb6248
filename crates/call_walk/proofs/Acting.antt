-- An act reads and writes cells of frames and of the globals that its label names, and nothing else.
use Rattle.std.proofs.Common.{ℕ, ◌-◌, ℤ, List, [], ◌∷◌, Bool, true, false, Option, Some, None, All, nat_le, if◌then◌else◌}
use Rattle.std.proofs.lemmas.List.Elements.{All-head, All-tail}
use Rattle.csub_types.specs.declared.kind.IntKind.TheVariants.{Int}
use Rattle.csub_types.specs.declared.trap.Trap.TheVariants.{Depth}
use Rattle.csub_types.specs.Kinds.{convert}
use Rattle.csub_semantics.specs.declared.label.EndRule.{EndRule}
use Rattle.csub_semantics.specs.declared.label.EndRule.TheVariants.{Nothing, Value, Main, Start}
use Rattle.csub_semantics.specs.declared.status.Status.TheVariants.{Trap}
use Rattle.csub_objects.specs.Types.{number_kind, MemberTree}
use Rattle.csub_semantics.specs.Trees.{NamedArg, value_argument, array_argument, reading, variable, temporary}
use Rattle.csub_semantics.specs.Labels.{LabelTree, enters, exits, evaluates, initialises, branches, switches, returns, jumps, halts, calls, AnswerTree, CallTree}
use Rattle.csub_semantics.specs.Memory.{Answer}
use Rattle.csub_semantics.specs.Cells.{Root, Content, entered}
use Rattle.csub_semantics.specs.Initialising.{object_spot}
use Rattle.csub_semantics.specs.Acts.{Store, Outcome, pushes, ends, after_value, argument_content, argument_contents, most_frames, act_exit, act_return, act_call, act}
use Rattle.call_walk.specs.Shared.{Agree}
use Rattle.call_walk.specs.Locality.{HasFrames, CoversArg, CoversAnswer, CoversLabel, SameOutcome, both_leave, both_give as both_decide, both_push, both_pop, both_end, ActsAreLocal}
use Rattle.call_walk.proofs.Agreeing.{IsInside, AreInside, number_inside, reference_inside, agree_dropped, agree_entered}
use Rattle.call_walk.proofs.Evaluating.{SameAnswer, both_give, both_trap, then_same, same_locate, same_eval}
use Rattle.call_walk.proofs.Initialising.{same_initialise}

-- an outcome after a value
after_same : {X : Type 0} {Q : X → Type 0} {A : Store → Store → Type 0} {a a' : Answer X Store} {go go' : X → Store → Outcome} → SameAnswer Q A a a' → ((v : X) (s s' : Store) → Q v → A s s' → SameOutcome A (go v s) (go' v s')) → SameOutcome A (after_value a go) (after_value a' go')
after_same (both_give {v = v} {s = s} {s' = s'} q r) k = k v s s' q r
after_same (both_trap r) k = both_end r

module _ (S : Root → Bool) (frames : HasFrames S) where
  same_argument : (h : ℕ) (p : MemberTree) (a : NamedArg) (s s' : Store) → CoversArg S a → Agree S s s' → SameAnswer (IsInside S) (Agree S) (argument_content h p a s) (argument_content h p a s')
  same_argument h p (value_argument e) s s' covers agree =
      then_same (same_eval S frames h e s s' covers agree) (λ v t t' q r. both_give (number_inside S (convert (number_kind p.ctype) v)) r)
  same_argument h p (array_argument a) s s' covers agree =
      then_same (same_locate S frames h a s s' covers agree) (λ l t t' inside r. both_give (reference_inside S l.cell l.length inside) r)

  same_arguments : (h : ℕ) (params : List MemberTree) (args : List NamedArg) (s s' : Store) → All (CoversArg S) args → Agree S s s' → SameAnswer (AreInside S) (Agree S) (argument_contents h params args s) (argument_contents h params args s')
  same_arguments h [] args s s' covers agree = both_give tt agree
  same_arguments h (p ∷ params) [] s s' covers agree = both_give tt agree
  same_arguments h (p ∷ params) (a ∷ args) s s' covers agree =
      then_same (same_argument h p a s s' (All-head (CoversArg S) a args covers) agree)
      (λ c t t' inside r. then_same (same_arguments h params args t t' (All-tail (CoversArg S) a args covers) r) (λ cs u u' rest z. both_give (inside, rest) z))

  same_call : (c : CallTree) (n : ℕ) (s s' : Store) → All (CoversArg S) c.args → Agree S s s' → SameOutcome (Agree S) (act_call c n s) (act_call c n s')
  same_call c n s s' covers agree =
      after_same (same_arguments (n - 1) c.params c.args s s' covers agree) (λ cs t t' inside r. at (nat_le most_frames n) cs t t' inside r)
    where
      at : (deep : Bool) (cs : List Content) (t t' : Store) → AreInside S cs → Agree S t t' → SameOutcome (Agree S) (if deep then ends (Trap Depth) t else pushes c.callee (record t { cells = entered n c.params cs t.cells })) (if deep then ends (Trap Depth) t' else pushes c.callee (record t' { cells = entered n c.params cs t'.cells }))
      at true cs t t' inside r = both_end r
      at false cs t t' inside r = both_push (agree_entered S n c.params cs t t' inside r)

  same_exit : (rule : EndRule) (n : ℕ) (r : Option ℤ) (s s' : Store) → Agree S s s' → SameOutcome (Agree S) (act_exit rule n r s) (act_exit rule n r s')
  same_exit Nothing n r s s' agree = both_pop (agree_dropped S (n - 1) s s' agree)
  same_exit Value n None s s' agree = both_end agree
  same_exit Value n (Some v) s s' agree = both_pop (agree_dropped S (n - 1) s s' agree)
  same_exit Main n None s s' agree = both_pop (agree_dropped S (n - 1) s s' agree)
  same_exit Main n (Some v) s s' agree = both_pop (agree_dropped S (n - 1) s s' agree)
  same_exit Start n r s s' agree =
      after_same (same_eval S frames (n - 1) (reading (variable (temporary 1 Int))) s s' tt agree) (λ v t t' q z. both_end z)

  same_return : (answer : Option AnswerTree) (n : ℕ) (r : Option ℤ) (s s' : Store) → CoversAnswer S answer → Agree S s s' → SameOutcome (Agree S) (act_return answer n r s) (act_return answer n r s')
  same_return None n r s s' covers agree = both_leave agree
  same_return (Some a) n r s s' covers agree = after_same (same_eval S frames (n - 1) a.value s s' covers agree) (λ v t t' q z. both_leave z)

  pub same_act : (l : LabelTree) → CoversLabel S l → (n : ℕ) (r : Option ℤ) (s s' : Store) → Agree S s s' → SameOutcome (Agree S) (act l n r s) (act l n r s')
  same_act enters covers n r s s' agree = both_leave agree
  same_act (exits rule) covers n r s s' agree = same_exit rule n r s s' agree
  same_act (evaluates e) covers n r s s' agree = after_same (same_eval S frames (n - 1) e s s' covers agree) (λ v t t' q z. both_leave z)
  same_act (initialises owner t init) covers n r s s' agree =
      after_same (same_initialise S frames (n - 1) init t (object_spot (n - 1) owner t) s s' covers.1 agree) (λ v u u' q z. both_leave z)
  same_act (branches e) covers n r s s' agree = after_same (same_eval S frames (n - 1) e s s' covers agree) (λ v t t' q z. both_leave z)
  same_act (switches e) covers n r s s' agree = after_same (same_eval S frames (n - 1) e s s' covers agree) (λ v t t' q z. both_decide z)
  same_act (returns answer) covers n r s s' agree = same_return answer n r s s' covers agree
  same_act jumps covers n r s s' agree = both_leave agree
  same_act (halts e) covers n r s s' agree = after_same (same_eval S frames (n - 1) e s s' covers agree) (λ v t t' q z. both_end z)
  same_act (calls c) covers n r s s' agree = same_call c n s s' covers agree

pub acts_are_local : ActsAreLocal
acts_are_local S frames l covers n r s s' agree = same_act S frames l covers n r s s' agree
