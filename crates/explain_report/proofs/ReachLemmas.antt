-- The pairs after a pair that a walk holds.
use Rattle.std.proofs.Common.{◌≡◌, Some, None, subst, refl, ◌⊎◌, inl, inr}
use Rattle.csub_objects.specs.Types.{Name}
use Rattle.csub_semantics.specs.Labels.{CallTree, call_of, PointLabel}
use Rattle.csub_semantics.specs.Points.{PointTree, exit, ExitTree, next}
use Rattle.csub_semantics.specs.Syntax.{ProgramTree}
use Rattle.csub_semantics.specs.Flows.{flow_of}
use Rattle.csub_semantics.specs.Books.{Together, CallsAt, IsNoCallAt, Reached}
use Rattle.csub_semantics.proofs.LawsLabels.{call_or_none}
use Rattle.csub_validity.specs.Valid.{IsValid}
use Rattle.call_walk.specs.declared.answer.WalkResult.{WalkResult}
use Rattle.call_walk.specs.Walks.{IsWalk}
use Rattle.dual_walk.specs.Held.{IsHeld}
use Rattle.dual_walk.proofs.LawsReaching.{reached_step, reached_over}
use Rattle.call_walk.proofs.LawsCalls.{call_leads_by_next}
use Rattle.call_walk.proofs.LawsWalks.{held_reached, reached_held}

module _ (P P' : ProgramTree) (walked : WalkResult) (walk : IsWalk P P' walked) where
  -- successors with equal labels are held, at a call where the callee comes back
  pub next_held : IsValid P → (f : Name) (p p' q q' : PointTree) (x : ExitTree) (l : PointLabel) → (flow_of P).label f p ≡ Some l → IsHeld P P' walked.facts.items f p p'
      → ((g : Name) → CallsAt (flow_of P) f p g → IsHeld P P' walked.facts.items g exit exit) → Together (flow_of P) (flow_of P') f p p' x q q' → IsHeld P P' walked.facts.items f q q'
  next_held valid f p p' q q' x l labelled h back both = reached_held P P' walked walk f q q' (pick (call_or_none (call_of l.tree)))
    where
      pick : ((c : CallTree) × (call_of l.tree ≡ Some c)) ⊎ (call_of l.tree ≡ None) → Reached (flow_of P) (flow_of P') f q q'
      pick (inl c) =
          let at : CallsAt (flow_of P) f p c.0.callee = record { label = l; labelled = labelled; call = c.0; is = c.1; callee = refl } in
          let by : x ≡ next = call_leads_by_next P valid f p q l c.0 x labelled c.1 both.old in
          let together = subst (λ y. Together (flow_of P) (flow_of P') f p p' y q q') by both in
          reached_over (flow_of P) (flow_of P') f p p' q q' c.0.callee (held_reached P P' walked walk f p p' h) at (held_reached P P' walked walk c.0.callee exit exit (back c.0.callee at)) together
      pick (inr none) =
          let plain : IsNoCallAt (flow_of P) f p = record { label = l; labelled = labelled; none = none } in
          reached_step (flow_of P) (flow_of P') f p p' q q' x (held_reached P P' walked walk f p p' h) plain both
