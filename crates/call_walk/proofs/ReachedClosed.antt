-- The reached pairs and the dangerous edges are a closed claim.
use Rattle.std.proofs.Common.{◌≡◌, Option, Some, None, refl, sym, ap, ◌∙◌, subst, ◌⊎◌, inl, inr}
use Rattle.csub_objects.specs.Types.{Name}
use Rattle.csub_semantics.specs.Labels.{PointLabel}
use Rattle.csub_semantics.specs.Points.{PointTree, exit, ExitTree, next}
use Rattle.csub_semantics.specs.Flows.{Flow}
use Rattle.csub_semantics.specs.Books.{SameLabel, Together, CallsAt, Reached, Dangerous, GoesOn, Closed}
use Rattle.program_laws.specs.Decided.{Decided}
use Rattle.program_laws.specs.Flows.{IsFlow}
use Rattle.program_laws.proofs.LawsLabels.{labels_decided}
use Rattle.dual_walk.proofs.LawsReaching.{reached_start, reached_step, reached_call, reached_over, reached_same, one_callee, calls_or_not}

module _ (P P' : Flow) where
  abbrev Same : Name → PointTree → PointTree → Type 0
  Same f q q' = SameLabel P P' f q q'

  pub same_or_not : (f : Name) (q q' : PointTree) → Same f q q' ⊎ (Same f q q' → ⊥)
  same_or_not f q q' = pick (P.label f q) refl (P'.label f q') refl
    where
      pick : (a : Option PointLabel) → P.label f q ≡ a → (b : Option PointLabel) → P'.label f q' ≡ b → Same f q q' ⊎ (Same f q q' → ⊥)
      pick None ea b eb = inr (λ s. let e : ◌≡◌ {A = Option PointLabel} None (Some s.label) = sym ea ∙ s.old in cc)
      pick (Some a) ea None eb = inr (λ s. let e : ◌≡◌ {A = Option PointLabel} None (Some s.label) = sym eb ∙ s.new in cc)
      pick (Some a) ea (Some b) eb = decide (labels_decided a b)
        where
          decide : Decided a b → Same f q q' ⊎ (Same f q q' → ⊥)
          decide (inl e) = inl (record { label = b; old = ea ∙ ap Some e; new = eb })
          decide (inr n) = inr (λ s. let e1 : ◌≡◌ {A = Option PointLabel} (Some a) (Some s.label) = sym ea ∙ s.old in let e2 : ◌≡◌ {A = Option PointLabel} (Some b) (Some s.label) = sym eb ∙ s.new in let e3 : a ≡ b = cc in n e3)

  -- an edge of a reached pair is dangerous, or leads on to a reached pair
  pub on_or_danger : (f : Name) (p p' q : PointTree) (x : ExitTree) → Reached P P' f p p' → ((g : Name) → CallsAt P f p g → Reached P P' g exit exit) → ((q' : PointTree) → Together P P' f p p' x q q' → Reached P P' f q q') → P.succ f p x ≡ Some q → Dangerous P P' f p x ⊎ GoesOn P' (Reached P P') f p' x q
  on_or_danger f p p' q x r back on e = pick (P'.succ f p' x) refl
    where
      danger : ((q' : PointTree) → P'.succ f p' x ≡ Some q' → Same f q q' → ⊥) → Dangerous P P' f p x
      danger other = record { to = q; leads = e; other = p'; reached = r; none = other; returns = back }

      pick : (o : Option PointTree) → P'.succ f p' x ≡ o → Dangerous P P' f p x ⊎ GoesOn P' (Reached P P') f p' x q
      pick None eo = inl (danger (λ q' e' s. let a : ◌≡◌ {A = Option PointTree} None (Some q') = sym eo ∙ e' in cc))
      pick (Some q') eo = decide (same_or_not f q q')
        where
          decide : Same f q q' ⊎ (Same f q q' → ⊥) → Dangerous P P' f p x ⊎ GoesOn P' (Reached P P') f p' x q
          decide (inl s) = inr (record { to = q'; leads = eo; claimed = on q' (record { old = e; new = eo; same = s }) })
          decide (inr n) = inl (danger (λ q2 e2 s. let a : ◌≡◌ {A = Option PointTree} (Some q') (Some q2) = sym eo ∙ e2 in let b : q2 ≡ q' = cc in n (subst (λ y. Same f q y) b s)))

  module _ (ok : IsFlow P) (ok' : IsFlow P') where
    pub reached_closed : Closed P P' (Reached P P') (Dangerous P P')
    reached_closed = record {
      starts = reached_start P P';
      same = reached_same P P' ok ok';
      steps = λ f p p' q x r plain e. on_or_danger f p p' q x r (λ g at. absurd (calls_or_not P f p g plain at)) (λ q' both. reached_step P P' f p p' q q' x r plain both) e;
      enters = λ f p p' g r at. reached_call P P' f p p' g r at;
      over = λ f p p' q g r at back e. on_or_danger f p p' q next r (λ h at'. subst (λ n. Reached P P' n exit exit) (one_callee P f p g h at at') back) (λ q' both. reached_over P P' f p p' q q' g r at back both) e;
    }
