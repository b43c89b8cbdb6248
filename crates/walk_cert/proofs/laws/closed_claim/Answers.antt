use Rattle.walk_cert.proofs.LawLemmas.{closed_runs}
use Rattle.walk_cert.proofs.laws.closed_claim.Goals as goal

pub returns : goal.returns
returns c P P' valid valid' row pairs closed = closed_runs P P' row pairs (λ facts edges h. c.certificate.ensures.runs P P' valid valid' facts edges h) closed
