-- What is called at a point, and by which fact it comes back.
use Rattle.std.proofs.Common.{◌≡◌, ℕ, List, Option, Some, None, refl, sym, ap, ◌∙◌, subst}
use Rattle.std.specs.Prelude.{slice_get, MatchOption}
use Rattle.csub_objects.specs.Types.{Name}
use Rattle.csub_semantics.specs.declared.label.CallLabel.{CallLabel}
use Rattle.csub_semantics.specs.declared.label.Label.{Label}
use Rattle.csub_semantics.specs.declared.label.Label.TheVariants.{Call}
use Rattle.csub_semantics.specs.Types.{GlobalTree}
use Rattle.csub_semantics.specs.Labels.{CallTree, call_of, call_tree, PointLabel, label_tree}
use Rattle.csub_semantics.specs.Points.{PointTree, exit}
use Rattle.csub_semantics.specs.Syntax.{ProgramTree}
use Rattle.csub_semantics.specs.Flows.{flow_of}
use Rattle.csub_semantics.specs.Books.{CallsAt}
use Rattle.csub_semantics.proofs.LawsLabels.{no_call}
use Rattle.dual_walk.specs.declared.fact.Fact.{Fact}
use Rattle.dual_walk.specs.Held.{AreAt, IsHeld}
use Rattle.dual_walk.proofs.LawsReaching.{one_callee}
use Rattle.explain_report.specs.Explanations.{ComesBackBy}

module _ (P P' : ProgramTree) (facts : List Fact) (f : Name) (p : PointTree) (l : Label) (globals : List GlobalTree)
    (labelled : (flow_of P).label f p ≡ Some (record { tree = label_tree l; globals = globals })) where
  calls_there : (c : CallLabel) → l ≡ Call c → CallsAt (flow_of P) f p c.callee
  calls_there c is = record { label = _; labelled = labelled; call = call_tree c; is = ap (λ k. call_of (label_tree k)) is; callee = refl }

  -- by the fact of the exits of what is called
  pub back_there : (c : CallLabel) → l ≡ Call c → (found : Option ℕ)
      → MatchOption found (IsHeld P P' facts c.callee exit exit → ⊥) (λ place. (d : Fact) × (slice_get facts place ≡ Some d) × AreAt P P' d.old d.new c.callee exit exit)
      → MatchOption found ((g : Name) → CallsAt (flow_of P) f p g → IsHeld P P' facts g exit exit → ⊥) (λ place. ComesBackBy P P' facts f p (Some place))
  back_there c is None never = λ g called h. never (subst (λ n. IsHeld P P' facts n exit exit) (one_callee (flow_of P) f p g c.callee called (calls_there c is)) h)
  back_there c is (Some place) by = (c.callee, by.0, calls_there c is, by.1, by.2.old, by.2.new)

  -- where nothing is called
  pub none_there : ((c : CallLabel) → l ≡ Call c → ⊥) → (g : Name) → CallsAt (flow_of P) f p g → ⊥
  none_there other g called =
      let both : ◌≡◌ {A = Option PointLabel} (Some (record { tree = label_tree l; globals = globals })) (Some called.label) = sym labelled ∙ called.labelled in
      let same : record { tree = label_tree l; globals = globals } ≡ called.label = cc in
      let clash : ◌≡◌ {A = Option CallTree} None (Some called.call) = sym (no_call l other) ∙ ap (λ (k : PointLabel). call_of k.tree) same ∙ called.is in
      cc
