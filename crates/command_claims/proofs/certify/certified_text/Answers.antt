use Rattle.std.proofs.Common.{◌≡◌, length, refl, ap, ◌∙◌, subst, rules, arith}
use Rattle.std.specs.Vec.{vec_len}
use Rattle.sha2.specs.Sha256.{sha256}
use Rattle.csub_semantics.specs.Syntax.{program_tree}
use Rattle.cert_text.specs.Causes.{HasTextCause}
use Rattle.cert_text.specs.CertificateTexts.{certificate_text}
use Rattle.command_claims.proofs.Claims.{is_within, is_certificate}
use Rattle.command_claims.proofs.certify.certified_text.Goals as goal

pub write_certificate-requires : goal.write_certificate-requires
write_certificate-requires c =
    let P = program_tree c.args.versions.now.old in
    let P' = program_tree c.args.versions.now.new in
    let graphs = c.in_ok-graphs.ensures in
    is_within P P' c.in_ok-walked.walked (c.in_ok-walked.ensures P P' graphs.old graphs.new) graphs.old.valid graphs.new.valid c.in_ok-certificate.certificate c.in_ok-certificate.ensures.pairs

pub returns-in-Ok : goal.returns-in-Ok
returns-in-Ok c =
    let P = program_tree c.args.versions.now.old in
    let P' = program_tree c.args.versions.now.new in
    let graphs = c.in_ok-graphs.ensures in
    let made = c.in_ok-certificate.ensures in
    let of = is_certificate P P' c.in_ok-walked.walked (c.in_ok-walked.ensures P P' graphs.old graphs.new) graphs.old.valid graphs.new.valid c.in_ok-certificate.certificate made.pairs
    c.args.versions.now.source.items c.args.versions.now.new_source.items (made.old ∙ ap sha256 c.deref.ensures.value) (made.new ∙ ap sha256 c.deref-2.ensures.value) made.danger (made.closed P P' graphs.old graphs.new) in
    let counted : vec_len c.in-Ok.text ≡ length c.in-Ok.text.items = search rules in
    record {
      text = record { certificate = c.in_ok-certificate.certificate; of = of; is = c.in-Ok.ensures.text };
      short = omega (arith, counted, c.in-Ok.ensures.short);
    }

pub returns-in-Err-TooLong : goal.returns-in-Err-TooLong
returns-in-Err-TooLong c =
    let P = program_tree c.args.versions.now.old in
    let P' = program_tree c.args.versions.now.new in
    let graphs = c.in_ok-graphs.ensures in
    let made = c.in_ok-certificate.ensures in
    let certificate = c.in_ok-certificate.certificate in
    let of = is_certificate P P' c.in_ok-walked.walked (c.in_ok-walked.ensures P P' graphs.old graphs.new) graphs.old.valid graphs.new.valid certificate made.pairs
    c.args.versions.now.source.items c.args.versions.now.new_source.items (made.old ∙ ap sha256 c.deref.ensures.value) (made.new ∙ ap sha256 c.deref-2.ensures.value) made.danger (made.closed P P' graphs.old graphs.new) in
    let cause = subst (HasTextCause certificate) c.in-Err-TooLong.field-0-is c.in-Err-TooLong.ensures.cause in (
      refl,
      record {
        bytes = certificate_text certificate;
        text = record { certificate = certificate; of = of; is = refl };
        counted = cause.0;
        long = cause.1;
      },
    )
