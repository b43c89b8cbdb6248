use Rattle.std.proofs.Common.{◌∙◌, List, ℕ, sym, subst₂}
use Rattle.walk_cert.specs.Claims.{bounds_of}
use Rattle.command_claims.specs.Checked.{IsCertificateFile, NoCertificate}
use Rattle.command_claims.proofs.Reading.{bounds_are, no_certificate, is_certificate_file}
use Rattle.command_claims.proofs.check.read_claim.Goals as goal

pub returns-in-Ok : goal.returns-in-Ok
returns-in-Ok c = λ P P' graphs.
    let bytes = c.args.bytes.now in
    let old = c.args.graphs.now.old in
    let new = c.args.graphs.now.new in
    let read = c.in-Ok.ensures in
    subst₂ (λ (source source' : List ℕ). IsCertificateFile source source' bytes P P' c.in-Ok.certificate) c.deref.ensures.value c.deref-2.ensures.value
    (is_certificate_file (bounds_of old new) bytes c.deref.result.now c.deref-2.result.now P P' (bounds_are old new P P' graphs.old graphs.new) c.in-Ok.certificate read.certificate read.old read.new read.exact)

pub returns-in-Some : goal.returns-in-Some
returns-in-Some c = λ P P' graphs.
    let bytes = c.args.bytes.now in
    let old = c.args.graphs.now.old in
    let new = c.args.graphs.now.new in
    let read = c.in-Err.ensures in
    subst₂ (λ (source source' : List ℕ). NoCertificate source source' bytes P P' c.in-Some.cause) c.deref.ensures.value c.deref-2.ensures.value
    (no_certificate (bounds_of old new) bytes c.deref.result.now c.deref-2.result.now P P' (bounds_are old new P P' graphs.old graphs.new) c.in-Err.error c.in-Some.cause
    (sym c.certificate_cause.ensures ∙ c.in-Some.is) read.back read.cause)
