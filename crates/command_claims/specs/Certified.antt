-- What `certify` writes: the claim of the walk of two versions.
use Rattle.std.specs.Prelude.{ℕ, ◌≡◌, ◌↔◌, List, length, Some, IsTrue}
use Rattle.sha2.specs.Sha256.{sha256}
use Rattle.csub_objects.specs.Types.{Name}
use Rattle.csub_semantics.specs.Points.{PointTree}
use Rattle.csub_semantics.specs.Syntax.{ProgramTree}
use Rattle.csub_semantics.specs.Flows.{Edge, edge_list, flow_of}
use Rattle.csub_semantics.specs.Numbers.{edge_at}
use Rattle.csub_semantics.specs.Books.{Reached, Dangerous}
use Rattle.edge_trace.specs.Rows.{has}
use Rattle.dual_walk.specs.Held.{AreAt}
use Rattle.cert_text.specs.Certificates.{CertificateParts, Rise}
use Rattle.cert_text.specs.CertificateTexts.{certificate_text}
use Rattle.walk_cert.specs.Pairs.{HasPair}
use Rattle.walk_cert.specs.Claims.{IsClosedClaim}

-- the old edge with this number is dangerous
pub record IsDangerAt (P P' : ProgramTree) (e : ℕ) : Type 0 where
  pub edge : Edge
  pub numbered : edge_at P e ≡ Some edge
  pub danger : Dangerous (flow_of P) (flow_of P') edge.function edge.from edge.exit

-- the points with these numbers are reached together
pub record AreReachedAt (P P' : ProgramTree) (n n' : ℕ) : Type 0 where
  pub function : Name
  pub point : PointTree
  pub other : PointTree
  pub at : AreAt P P' n n' function point other
  pub reached : Reached (flow_of P) (flow_of P') function point other

-- the certificate of two sources, whose programs are P and P': their SHA-256 digests (FIPS 180-4), the dangerous edges and the
-- reached pairs, and no others. Its claim is closed.
pub record IsCertificateOf (old new : List ℕ) (P P' : ProgramTree) (certificate : CertificateParts) : Type 0 where
  pub old_is : certificate.old ≡ sha256 old
  pub new_is : certificate.new ≡ sha256 new
  pub edges : length certificate.danger ≡ length (edge_list P)
  pub danger : (e : ℕ) → IsTrue (has certificate.danger e) ↔ IsDangerAt P P' e
  pub rise : Rise certificate.pairs
  pub pairs : (n n' : ℕ) → HasPair certificate.pairs n n' ↔ AreReachedAt P P' n n'
  pub closed : IsClosedClaim P P' certificate.danger certificate.pairs

-- its text
pub record IsCertifiedText (old new : List ℕ) (P P' : ProgramTree) (text : List ℕ) : Type 0 where
  pub certificate : CertificateParts
  pub of : IsCertificateOf old new P P' certificate
  pub is : text ≡ certificate_text certificate
