-- From what the reader of a certificate answers to the certificate, or to what is told of the bytes.
use Rattle.std.proofs.Common.{◌≡◌, ◌<◌, ◌≤◌, List, ℕ, length, Some, None, refl, sym, subst, arith}
use Rattle.sha2.specs.Sha256.{sha256}
use Rattle.csub_semantics.specs.Syntax.{ProgramTree}
use Rattle.flow_graph.specs.Graph.{Tables, IsGraphOf}
use Rattle.flow_graph.proofs.LawsPlaces.{points_counted, edges_counted}
use Rattle.cert_text.specs.declared.bounds.Bounds.{Bounds}
use Rattle.cert_text.specs.declared.error.CertificateError.{CertificateError}
use Rattle.cert_text.specs.declared.error.CertificateError.TheVariants.{TooLong, Memory}
use Rattle.cert_text.specs.Causes.{HasCause, HasNoCause, IsTextOf}
use Rattle.cert_text.specs.Certificates.{CertificateParts}
use Rattle.cert_text.specs.CertificateTexts.{most_certificate_bytes}
use Rattle.walk_cert.specs.Claims.{bounds_of}
use Rattle.command_refusals.specs.Causes.{certificate_cause}
use Rattle.command_refusals.specs.declared.certificate.CertificateCause.{CertificateCause}
use Rattle.command_claims.specs.Checked.{bounds_by, IsCertificateFile, NoCertificate}

-- graphs have as many edges and points as their programs
pub bounds_are : (g g' : Tables) (P P' : ProgramTree) → IsGraphOf g P → IsGraphOf g' P' → bounds_of g g' ≡ bounds_by P P'
bounds_are g g' P P' ok ok' = λ i. record { edges = edges_counted g P ok i; old_points = points_counted g P ok i; new_points = points_counted g' P' ok' i }

no_cause : {cause : CertificateCause} → None ≡ Some cause → ⊥
no_cause h = cc

-- an error of which something is told is no want of memory
not_memory : (error : CertificateError) (cause : CertificateCause) → certificate_cause error ≡ Some cause → error ≡ Memory → ⊥
not_memory error cause is memory = no_cause (subst (λ e. certificate_cause e ≡ Some cause) memory is)

module _ (bounds : Bounds) (bytes old new : List ℕ) (P P' : ProgramTree) (are : bounds ≡ bounds_by P P') where
  -- that an answer is the one for a certificate, save for want of memory
  abbrev IsBack : (CertificateParts → Type 0) → Type 0
  IsBack answers = (certificate : CertificateParts) → IsTextOf bounds bytes certificate → length bytes ≤ most_certificate_bytes
      → certificate.old ≡ sha256 old → certificate.new ≡ sha256 new → answers certificate

  pub no_certificate : (error : CertificateError) (cause : CertificateCause) → certificate_cause error ≡ Some cause → IsBack (λ certificate. error ≡ Memory)
      → HasCause bounds bytes old new error → NoCertificate old new bytes P P' cause
  no_certificate error cause told back why = record {
    none = λ certificate is.
        not_memory error cause told (back certificate (subst (λ (b : Bounds). IsTextOf b bytes certificate) (sym are) is.text) is.short is.old_is is.new_is);
    error = error;
    why = subst (λ (b : Bounds). HasCause b bytes old new error) are why;
    is = told;
  }

  -- what is refused for no cause is no longer than a certificate may be
  no_longer : HasNoCause bounds bytes old new → length bytes ≤ 134217728
  no_longer none = omega (arith, λ (long : 134217728 < length bytes). not_too_long (none (TooLong (length bytes)) (refl, long)))
    where
      not_too_long : TooLong (length bytes) ≡ Memory → ⊥
      not_too_long h = cc

  pub is_certificate_file : (certificate : CertificateParts) → IsTextOf bounds bytes certificate → certificate.old ≡ sha256 old → certificate.new ≡ sha256 new
      → HasNoCause bounds bytes old new → IsCertificateFile old new bytes P P' certificate
  is_certificate_file certificate text old_is new_is none = record {
    text = subst (λ (b : Bounds). IsTextOf b bytes certificate) are text;
    short = no_longer none;
    old_is = old_is;
    new_is = new_is;
  }
