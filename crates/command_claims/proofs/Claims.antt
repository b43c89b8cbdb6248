-- From a walk to its certificate: the row holds the dangerous edges, the pairs are the reached ones, and they are few.
use Rattle.std.proofs.Common.{◌≡◌, ◌<◌, ◌↔◌, ℕ, List, length, Bool, false, Some, IsTrue, refl, sym, ap, subst, ◌∙◌, inl, inr, arith}
use Rattle.std.specs.Prelude.{slice_get}
use Rattle.std.proofs.lemmas.Option.{slice_get_cases, slice_get_within}
use Rattle.sha2.specs.Sha256.{sha256}
use Rattle.csub_objects.specs.Types.{Name}
use Rattle.csub_semantics.specs.Points.{PointTree}
use Rattle.csub_semantics.specs.Syntax.{ProgramTree}
use Rattle.csub_semantics.specs.Flows.{edge_list, point_list}
use Rattle.csub_semantics.specs.Numbers.{Site, site_at, site_of}
use Rattle.csub_validity.specs.Valid.{IsValid}
use Rattle.edge_trace.specs.Rows.{has}
use Rattle.edge_trace.proofs.Laws.{has-within}
use Rattle.flow_graph.proofs.LawsLists.{made_of}
use Rattle.dual_walk.specs.declared.fact.Fact.{Fact}
use Rattle.dual_walk.specs.Held as held
use Rattle.dual_walk.specs.Held.{AreAt}
use Rattle.dual_walk.proofs.LawsFacts.{held_pair, pair_held}
use Rattle.call_walk.specs.declared.answer.WalkResult.{WalkResult}
use Rattle.call_walk.specs.Walks.{IsWalk}
use Rattle.call_walk.proofs.LawsWalks.{held_reached, reached_held}
use Rattle.cert_text.specs.Certificates.{CertificateParts, IsWithin}
use Rattle.walk_cert.specs.Claims.{IsClosedClaim}
use Rattle.walk_cert.specs.Made.{IsOfWalk}
use Rattle.command_claims.specs.Certified.{IsDangerAt, AreReachedAt, IsCertificateOf}
use Rattle.command_claims.proofs.Few.{few, AreSmall}

-- a valid program has at most 10,000 points
few_points : (P : ProgramTree) → IsValid P → (n : ℕ) (s : Site) → site_at P n ≡ Some s → n < 10000
few_points P valid n s at =
    let m = made_of site_of (slice_get (point_list P) n) s at in
    omega (arith, slice_get_within (point_list P) n m.value m.is, valid.points)

module _ (P P' : ProgramTree) (walked : WalkResult) (walk : IsWalk P P' walked) where
  abbrev facts : List Fact
  facts = walked.facts.items

  danger_at : (e : ℕ) → IsTrue (has walked.danger e) ↔ IsDangerAt P P' e
  danger_at e = (marked, λ d. (walk.danger e d.edge d.numbered).1 d.danger)
    where
      marked : IsTrue (has walked.danger e) → IsDangerAt P P' e
      marked is = elim ((slice_get_cases (edge_list P) e).1) [
        | inl h ↦ record { edge = h.0; numbered = h.2; danger = (walk.danger e h.0 h.2).0 is }
        | inr h ↦ absurd (omega (arith, h.0, has-within walked.danger e is, walk.edges))
      ]

  -- a fact is of points that are reached together
  fact_reached : (n n' : ℕ) → held.HasPair facts n n' → AreReachedAt P P' n n'
  fact_reached n n' h =
      let named = (walk.reasons h.place h.fact h.stands).named in
      let at : AreAt P P' n n' named.name named.point named.other = record { old = ap (site_at P) (sym h.old) ∙ named.old; new = ap (site_at P') (sym h.new) ∙ named.new } in
      record {
        function = named.name;
        point = named.point;
        other = named.other;
        at = at;
        reached = held_reached P P' walked walk named.name named.point named.other (pair_held P P' facts n n' named.name named.point named.other at h);
      }

  -- points that are reached together are those of a fact
  reached_fact : IsValid P → IsValid P' → (n n' : ℕ) → AreReachedAt P P' n n' → held.HasPair facts n n'
  reached_fact valid valid' n n' r = held_pair P P' facts n n' r.function r.point r.other valid valid' r.at (reached_held P P' walked walk r.function r.point r.other r.reached)

  module _ (valid : IsValid P) (valid' : IsValid P') (certificate : CertificateParts) (made : IsOfWalk facts certificate.pairs) where
    are_small : AreSmall certificate.pairs
    are_small place pair stands =
        let h = (made.each pair.old pair.new).0 (record { place = place; pair = pair; stands = stands; old_is = refl; new_is = refl }) in
        let at = (fact_reached pair.old pair.new h).at in
        (few_points P valid pair.old _ at.old, few_points P' valid' pair.new _ at.new)

    pub is_within : IsWithin certificate
    is_within = record { rise = made.rise; few = few certificate.pairs are_small made.rise }

    pub is_certificate : (old new : List ℕ) → certificate.old ≡ sha256 old → certificate.new ≡ sha256 new → certificate.danger ≡ walked.danger → IsClosedClaim P P' certificate.danger certificate.pairs
        → IsCertificateOf old new P P' certificate
    is_certificate old new old_is new_is row closed = record {
      old_is = old_is;
      new_is = new_is;
      edges = ap length row ∙ walk.edges;
      danger = subst (λ (danger : List Bool). (e : ℕ) → IsTrue (has danger e) ↔ IsDangerAt P P' e) (sym row) danger_at;
      rise = made.rise;
      pairs = λ n n'. (λ h. fact_reached n n' ((made.each n n').0 h), λ r. (made.each n n').1 (reached_fact valid valid' n n' r));
      closed = closed;
    }
