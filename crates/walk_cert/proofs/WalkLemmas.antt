-- The pairs of a walk are the reached ones, and with its row they are a closed claim.
use Rattle.std.proofs.Common.{◌≡◌, ℕ, List, Some, refl, sym, ap, ◌∙◌}
use Rattle.std.specs.Prelude.{slice_get}
use Rattle.csub_objects.specs.Types.{Name}
use Rattle.csub_semantics.specs.Points.{PointTree, ExitTree}
use Rattle.csub_semantics.specs.Syntax.{ProgramTree}
use Rattle.csub_semantics.specs.Flows.{flow_of}
use Rattle.csub_semantics.specs.Numbers.{site_at}
use Rattle.csub_semantics.specs.Books.{Reached, Dangerous, Closed}
use Rattle.csub_validity.specs.Valid.{IsValid}
use Rattle.dual_walk.specs.declared.fact.Fact.{Fact}
use Rattle.dual_walk.specs.Held.{AreAt}
use Rattle.dual_walk.proofs.LawsFacts.{pair_held}
use Rattle.dual_walk.proofs.LawsNumbers.{edge_of}
use Rattle.call_walk.specs.declared.answer.WalkResult.{WalkResult}
use Rattle.call_walk.specs.Walks.{IsWalk}
use Rattle.call_walk.proofs.LawsWalks.{held_reached, reached_held}
use Rattle.cert_text.specs.declared.pair.Pair.{Pair}
use Rattle.walk_cert.specs.Claims.{IsClaimed, IsInRow, AreAlike, IsClosedClaim}
use Rattle.walk_cert.specs.Made.{IsOfWalk}
use Rattle.walk_cert.proofs.ClaimLemmas.{claimed_of}
use Rattle.walk_cert.proofs.LawLemmas.{closed_over}

module _ (P P' : ProgramTree) (valid : IsValid P) (walked : WalkResult) (walk : IsWalk P P' walked) (pairs : List Pair) (made : IsOfWalk walked.facts.items pairs) where
  abbrev facts : List Fact
  facts = walked.facts.items

  -- a reached pair is held, and so claimed
  reached_claimed : (f : Name) (p p' : PointTree) → Reached (flow_of P) (flow_of P') f p p' → IsClaimed P P' pairs f p p'
  reached_claimed f p p' r =
      let h = reached_held P P' walked walk f p p' r in
      claimed_of P P' pairs h.fact.old h.fact.new f p p' h.at ((made.each h.fact.old h.fact.new).1 (record { place = h.place; fact = h.fact; stands = h.stands; old = refl; new = refl }))

  claimed_reached : (f : Name) (p p' : PointTree) → IsClaimed P P' pairs f p p' → Reached (flow_of P) (flow_of P') f p p'
  claimed_reached f p p' c =
      let h = (made.each c.pair.old c.pair.new).0 (record { place = c.place; pair = c.pair; stands = c.stands; old_is = refl; new_is = refl }) in
      held_reached P P' walked walk f p p' (pair_held P P' facts c.pair.old c.pair.new f p p' c.at h)

  -- a dangerous edge has a number, and so is in the row
  danger_in_row : (f : Name) (p : PointTree) (x : ExitTree) → Dangerous (flow_of P) (flow_of P') f p x → IsInRow P walked.danger f p x
  danger_in_row f p x d =
      let h = reached_held P P' walked walk f p d.other d.reached in
      let e = edge_of P valid h.fact.old f p d.to x h.at.old d.leads in
      record { edge = e.0; numbered = e.1; marked = (walk.danger e.0 (record { function = f; from = p; exit = x }) e.1).1 d }

  pub closed_of_walk : Closed (flow_of P) (flow_of P') (Reached (flow_of P) (flow_of P')) (Dangerous (flow_of P) (flow_of P')) → IsClosedClaim P P' walked.danger pairs
  closed_of_walk law = record { alike = alike; closed = closed }
    where
      closed : Closed (flow_of P) (flow_of P') (IsClaimed P P' pairs) (IsInRow P walked.danger)
      closed =
          closed_over (flow_of P) (flow_of P') (Reached (flow_of P) (flow_of P')) (IsClaimed P P' pairs) (Dangerous (flow_of P) (flow_of P')) (IsInRow P walked.danger)
          reached_claimed claimed_reached danger_in_row law

      alike : (place : ℕ) (pair : Pair) → slice_get pairs place ≡ Some pair → AreAlike P P' pair
      alike place pair stands =
          let h = (made.each pair.old pair.new).0 (record { place = place; pair = pair; stands = stands; old_is = refl; new_is = refl }) in
          let n = (walk.reasons h.place h.fact h.stands).named in
          let at : AreAt P P' pair.old pair.new n.name n.point n.other = record { old = ap (site_at P) (sym h.old) ∙ n.old; new = ap (site_at P') (sym h.new) ∙ n.new } in
          record {
            named = record { function = n.name; point = n.point; other = n.other; at = at };
            same = closed.same n.name n.point n.other (record { place = place; pair = pair; stands = stands; at = at });
          }
