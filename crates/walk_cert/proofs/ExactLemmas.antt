-- No break is found of a claim that is closed.
use Rattle.std.proofs.Common.{◌≡◌, ℕ, Bool, List, Some, None, refl, sym, subst, ◌⊎◌, inl, inr, IsTrue}
use Rattle.csub_semantics.specs.Labels.{CallTree, call_of, PointLabel}
use Rattle.csub_semantics.specs.Points.{next}
use Rattle.csub_semantics.specs.Syntax.{ProgramTree}
use Rattle.csub_semantics.specs.Flows.{flow_of}
use Rattle.csub_semantics.specs.Books.{CallsAt, IsNoCallAt, GoesOn}
use Rattle.csub_semantics.proofs.LawsLabels.{call_or_none}
use Rattle.csub_validity.specs.Valid.{IsValid}
use Rattle.edge_trace.specs.Rows.{has}
use Rattle.call_walk.proofs.LawsCalls.{call_leads_by_next}
use Rattle.cert_text.specs.declared.pair.Pair.{Pair}
use Rattle.walk_cert.specs.Claims.{IsClaimed, IsInRow, IsClosedClaim}
use Rattle.walk_cert.specs.Verdicts.{ComesBack, IsWayOut, Stays, IsVerdict}
use Rattle.walk_cert.specs.declared.answer.Verdict.{Verdict}
use Rattle.walk_cert.specs.declared.answer.Verdict.TheVariants as verdict
use Rattle.flow_graph.proofs.LawsOnce.{edges_once}

module _ (P P' : ProgramTree) (valid : IsValid P) (row : List Bool) (pairs : List Pair) (h : IsClosedClaim P P' row pairs) where
  -- an edge of a claimed pair stays, where what is called comes back
  stays_closed : (pair : Pair) (e : ℕ) (way : IsWayOut P P' pair e) → IsClaimed P P' pairs way.edge.function way.edge.from way.other → ComesBack P P' pairs pair → Stays P P' row pairs pair e way
  stays_closed pair e way claimed back =
      let same = h.closed.same way.edge.function way.edge.from way.other claimed in
      by_label same.label same.old (call_or_none (call_of same.label.tree))
    where
      marked : IsInRow P row way.edge.function way.edge.from way.edge.exit ⊎ GoesOn (flow_of P') (IsClaimed P P' pairs) way.edge.function way.other way.edge.exit way.to → Stays P P' row pairs pair e way
      marked (inl m) = inl (subst (λ n. IsTrue (has row n)) (edges_once P valid m.edge e way.edge m.numbered way.numbered) m.marked)
      marked (inr on) = inr on

      by_label : (l : PointLabel) → (flow_of P).label way.edge.function way.edge.from ≡ Some l → ((c : CallTree) × (call_of l.tree ≡ Some c)) ⊎ (call_of l.tree ≡ None) → Stays P P' row pairs pair e way
      by_label l is (inl c) =
          let calls : CallsAt (flow_of P) way.edge.function way.edge.from c.0.callee = record { label = l; labelled = is; call = c.0; is = c.1; callee = refl } in
          let by_next : way.edge.exit ≡ next = call_leads_by_next P valid way.edge.function way.edge.from way.to l c.0 way.edge.exit is c.1 way.leads in
          marked (subst (λ x. IsInRow P row way.edge.function way.edge.from x ⊎ GoesOn (flow_of P') (IsClaimed P P' pairs) way.edge.function way.other x way.to) (sym by_next)
          (h.closed.over way.edge.function way.edge.from way.other way.to c.0.callee claimed calls (back way.edge.function c.0.callee way.edge.from way.other way.at calls)
          (subst (λ x. (flow_of P).succ way.edge.function way.edge.from x ≡ Some way.to) by_next way.leads)))
      by_label l is (inr none) =
          let plain : IsNoCallAt (flow_of P) way.edge.function way.edge.from = record { label = l; labelled = is; none = none } in
          marked (h.closed.steps way.edge.function way.edge.from way.other way.to way.edge.exit claimed plain way.leads)

  pub closed_only : (v : Verdict) → IsVerdict P P' row pairs v → v ≡ verdict.Closed
  closed_only verdict.Closed found = refl
  closed_only verdict.NoStart found = absurd (found h.closed.starts)
  closed_only (verdict.Label pair) found = absurd (found.breaks.1 (h.alike found.place found.pair found.stands))
  closed_only (verdict.Callee pair) found =
      absurd (found.breaks.2 (λ f g p p' at calls. h.closed.enters f p p' g (record { place = found.place; pair = found.pair; stands = found.stands; at = at }) calls))
  closed_only (verdict.Exit pair e) found =
      let out = found.breaks.4.out in
      absurd (out.out (stays_closed found.pair e out.way (record { place = found.place; pair = found.pair; stands = found.stands; at = out.way.at }) found.breaks.3))
