use Rattle.std.proofs.Common.{sym, subst}
use Rattle.cert_text.specs.Certificates.{CertificateParts}
use Rattle.walk_cert.specs.Claims.{IsClosedClaim}
use Rattle.walk_cert.specs.Made.{IsOfWalk}
use Rattle.walk_cert.proofs.WalkLemmas.{closed_of_walk}
use Rattle.walk_cert.proofs.make.certificate_of.Goals as goal

pub returns-clause-closed : goal.returns-clause-closed
returns-clause-closed c P P' ok ok' =
    let walked = c.args.walked.now in
    let pairs = c.in_ok-pairs.pairs.items in
    let law = c.reached_is_closed.ensures P P' ok.valid ok'.valid in
    let closed : IsClosedClaim P P' walked.danger pairs = closed_of_walk P P' ok.valid walked (c.requires P P' ok ok') pairs (subst (λ facts. IsOfWalk facts pairs) c.deref.ensures.value c.in_ok-pairs.ensures) law in
    subst (λ (x : CertificateParts). IsClosedClaim P P' x.danger x.pairs) (sym c.new.ensures) (subst (λ row. IsClosedClaim P P' row pairs) (sym c.in_ok-copy.ensures) closed)
