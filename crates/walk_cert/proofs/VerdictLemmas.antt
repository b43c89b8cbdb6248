-- A claim whose every pair is kept is closed; the first break of another.
use Rattle.std.proofs.Common.{◌≡◌, ◌<◌, ℕ, Bool, List, Some, subst, subst₂, ◌⊎◌, inl, inr, IsTrue}
use Rattle.std.specs.Prelude.{slice_get}
use Rattle.csub_objects.specs.Types.{Name}
use Rattle.csub_semantics.specs.Points.{PointTree, ExitTree, entry, exit, next}
use Rattle.csub_semantics.specs.Syntax.{ProgramTree}
use Rattle.csub_semantics.specs.Flows.{Edge, flow_of, start_name}
use Rattle.csub_semantics.specs.Numbers.{edge_at}
use Rattle.csub_semantics.specs.Books.{SameLabel, CallsAt, GoesOn}
use Rattle.csub_validity.specs.Valid.{IsValid}
use Rattle.edge_trace.specs.Rows.{has}
use Rattle.dual_walk.proofs.LawsFacts.{one_at}
use Rattle.dual_walk.proofs.LawsNumbers.{edge_of}
use Rattle.dual_walk.proofs.LawsReaching.{one_callee}
use Rattle.cert_text.specs.declared.pair.Pair.{Pair}
use Rattle.walk_cert.specs.Claims.{IsClaimed, IsInRow, IsClosedClaim}
use Rattle.walk_cert.specs.Verdicts.{ComesBack, IsWayOut, IsKept, IsBreakAt, IsVerdict}
use Rattle.walk_cert.specs.declared.answer.Verdict.{Verdict}
use Rattle.walk_cert.specs.declared.answer.Verdict.TheVariants.{Closed, NoStart, Label, Callee, Exit}
use Rattle.walk_cert.proofs.ClaimLemmas.{back_none}

module _ (P P' : ProgramTree) (valid : IsValid P) (valid' : IsValid P') (row : List Bool) (pairs : List Pair) (kept : (k : ℕ) (pair : Pair) → slice_get pairs k ≡ Some pair → IsKept P P' row pairs pair) where
  same_at : (f : Name) (p p' : PointTree) → IsClaimed P P' pairs f p p' → SameLabel (flow_of P) (flow_of P') f p p'
  same_at f p p' h =
      let alike = (kept h.place h.pair h.stands).alike in
      let same = one_at P P' h.pair.old h.pair.new alike.named.function f alike.named.point alike.named.other p p' alike.named.at h.at in
      subst (λ q. SameLabel (flow_of P) (flow_of P') f p q) same.new (subst₂ (λ g q. SameLabel (flow_of P) (flow_of P') g q alike.named.other) same.function same.old alike.same)

  goes : (f : Name) (p p' q : PointTree) (x : ExitTree) → (h : IsClaimed P P' pairs f p p') → ComesBack P P' pairs h.pair → (flow_of P).succ f p x ≡ Some q → IsInRow P row f p x ⊎ GoesOn (flow_of P') (IsClaimed P P' pairs) f p' x q
  goes f p p' q x h back leads =
      let e = edge_of P valid h.pair.old f p q x h.at.old leads in
      let edge : Edge = record { function = f; from = p; exit = x } in
      let way : IsWayOut P P' h.pair e.0 = record { edge = edge; numbered = e.1; other = p'; at = h.at; to = q; leads = leads } in
      pick e.0 e.1 ((kept h.place h.pair h.stands).stays back e.0 way)
    where
      pick : (e : ℕ) → edge_at P e ≡ Some (record { function = f; from = p; exit = x }) → IsTrue (has row e) ⊎ GoesOn (flow_of P') (IsClaimed P P' pairs) f p' x q → IsInRow P row f p x ⊎ GoesOn (flow_of P') (IsClaimed P P' pairs) f p' x q
      pick e numbered (inl marked) = inl (record { edge = e; numbered = numbered; marked = marked })
      pick e numbered (inr on) = inr on

  pub kept_closed : IsClaimed P P' pairs start_name entry entry → IsClosedClaim P P' row pairs
  kept_closed starts = record {
    alike = λ k pair stands. (kept k pair stands).alike;
    closed = record {
      starts = starts;
      same = same_at;
      steps = λ f p p' q x h plain leads. goes f p p' q x h (back_none P P' valid valid' pairs h.pair f p p' h.at plain) leads;
      enters = λ f p p' g h calls. (kept h.place h.pair h.stands).enters f g p p' h.at calls;
      over = λ f p p' q g h calls back leads. goes f p p' q next h (came f p p' g h calls back) leads;
    };
  }
    where
      came : (f : Name) (p p' : PointTree) (g : Name) (h : IsClaimed P P' pairs f p p') → CallsAt (flow_of P) f p g → IsClaimed P P' pairs g exit exit → ComesBack P P' pairs h.pair
      came f p p' g h calls back f2 g2 q q' there calls2 =
          let same = one_at P P' h.pair.old h.pair.new f2 f q q' p p' there h.at in
          let called : CallsAt (flow_of P) f p g2 = subst₂ (λ n y. CallsAt (flow_of P) n y g2) same.function same.old calls2 in
          subst (λ n. IsClaimed P P' pairs n exit exit) (one_callee (flow_of P) f p g g2 calls called) back

-- the first break
pub first_break : (P P' : ProgramTree) (row : List Bool) (pairs : List Pair) (place : ℕ) (pair : Pair) (v : Verdict) → IsClaimed P P' pairs start_name entry entry → slice_get pairs place ≡ Some pair
    → ((k : ℕ) (other : Pair) → k < place → slice_get pairs k ≡ Some other → IsKept P P' row pairs other) → IsBreakAt P P' row pairs pair v → IsVerdict P P' row pairs v
first_break P P' row pairs place pair Closed starts stands before breaks = absurd breaks
first_break P P' row pairs place pair NoStart starts stands before breaks = absurd breaks
first_break P P' row pairs place pair (Label named) starts stands before breaks = record { starts = starts; place = place; pair = pair; stands = stands; before = before; breaks = breaks }
first_break P P' row pairs place pair (Callee named) starts stands before breaks = record { starts = starts; place = place; pair = pair; stands = stands; before = before; breaks = breaks }
first_break P P' row pairs place pair (Exit named e) starts stands before breaks = record { starts = starts; place = place; pair = pair; stands = stands; before = before; breaks = breaks }
