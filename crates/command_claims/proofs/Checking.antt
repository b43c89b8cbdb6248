-- From a certificate and the verdict on it to what is told of its claim.
use Rattle.std.proofs.Common.{◌≡◌, ◌<◌, List, Bool, true, false, length, All, sym, ◌∙◌, subst}
use Rattle.std.proofs.lemmas.Option.{slice_get_within}
use Rattle.csub_semantics.specs.Syntax.{ProgramTree}
use Rattle.csub_semantics.specs.Flows.{edge_list, flow_of}
use Rattle.flow_graph.specs.Graph.{Tables, IsGraphOf, edge_count}
use Rattle.flow_graph.proofs.LawsPlaces.{edges_counted}
use Rattle.call_walk.specs.Lockstep.{SameRuns}
use Rattle.cert_text.specs.declared.bounds.Bounds.{Bounds}
use Rattle.cert_text.specs.declared.pair.Pair.{Pair}
use Rattle.cert_text.specs.Certificates.{CertificateParts, IsBelow, IsReadable}
use Rattle.walk_cert.specs.declared.answer.Verdict.{Verdict}
use Rattle.walk_cert.specs.declared.answer.Verdict.TheVariants.{Closed, Exit}
use Rattle.walk_cert.specs.Claims.{IsClaimed, IsClosedClaim, IsInRow}
use Rattle.walk_cert.specs.Verdicts.{AreBelow, IsVerdict}
use Rattle.command_claims.specs.Checked.{bounds_by, is_closed}
use Rattle.command_claims.specs.Within.{HasEdgeWithin}
use Rattle.command_claims.proofs.Reading.{bounds_are}

module _ (P P' : ProgramTree) (certificate : CertificateParts) where
  -- the numbers of a certificate that was read are those of the graphs
  module _ (g g' : Tables) (ok : IsGraphOf g P) (ok' : IsGraphOf g' P') (readable : IsReadable (bounds_by P P') certificate) where
    pub row_counted : length certificate.danger ≡ edge_count g
    row_counted = readable.edges ∙ sym (edges_counted g P ok)

    pub pairs_below : AreBelow g g' certificate.pairs
    pairs_below = subst (λ (b : Bounds). All (IsBelow b) certificate.pairs) (sym (bounds_are g g' P P' ok ok')) readable.below

  -- an edge that leads out of the claim is one of the graph
  pub edge_within : (g : Tables) → IsGraphOf g P → (verdict : Verdict) → IsVerdict P P' certificate.danger certificate.pairs verdict → HasEdgeWithin g verdict
  edge_within g ok (Exit pair e) found =
      let way = found.breaks.4.out.way in
      subst (λ n. e < n) (sym (edges_counted g P ok)) (slice_get_within (edge_list P) e way.edge way.numbered)
  edge_within g ok verdict found = tt

  -- what a closed claim is good for
  pub runs_same : ((row : List Bool) (pairs : List Pair) → IsClosedClaim P P' row pairs → SameRuns (flow_of P) (flow_of P') (IsClaimed P P' pairs) (IsInRow P row))
      → (verdict : Verdict) → IsVerdict P P' certificate.danger certificate.pairs verdict → is_closed verdict ≡ true
      → SameRuns (flow_of P) (flow_of P') (IsClaimed P P' certificate.pairs) (IsInRow P certificate.danger)
  runs_same law Closed found told = law certificate.danger certificate.pairs found
  runs_same law verdict found told = absurd (no told)
    where
      no : false ≡ true → ⊥
      no h = cc
