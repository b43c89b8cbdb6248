use Rattle.std.proofs.Common.{◌≡◌, ◌≢◌, ◌∙◌, ap, sym, rules, arith}
use Rattle.sha2.specs.Sha256.{sha256}
use Rattle.cert_text.specs.declared.error.CertificateError.TheVariants.{Sum, Old, New}
use Rattle.cert_text.specs.Causes.{IsOnlyCause}
use Rattle.cert_text.specs.Certificates.{CertificateParts}
use Rattle.cert_text.specs.CertificateTexts.{text_before_end}
use Rattle.cert_text.proofs.CauseLemmas.{sum_is, told_is, told_whole, only_memory, passed_on, cause_excludes, refusal_cause, only_cause, passed_only}
use Rattle.cert_text.proofs.SameLemmas.{IsSmall}
use Rattle.cert_text.proofs.reader.read_text.Goals as goal

pub returns-in_err-told-clause-back : goal.returns-in_err-told-clause-back
returns-in_err-told-clause-back c = λ certificate is short old new.
    let small : IsSmall c.args.bounds = record { edges = c.requires; old = omega arith; new = omega arith } in
    passed_on c.from_residual.result _ c.in_err-told.field-0.0 c.from_residual.ensures.1 (only_memory c.args.bounds c.args.bytes.now certificate c.in_err-told.field-0.0 small is c.in_err-told.ensures.refusal)

pub returns-in_err-told-clause-exact : goal.returns-in_err-told-clause-exact
returns-in_err-told-clause-exact c =
    let small : IsSmall c.args.bounds = record { edges = c.requires; old = omega arith; new = omega arith } in
    passed_only c.from_residual.result _ (IsOnlyCause c.args.bounds c.args.bytes.now c.args.old.now c.args.new.now) c.in_err-told.field-0.0 c.from_residual.ensures.1
    (only_cause c.args.bounds c.args.bytes.now c.args.old.now c.args.new.now c.in_err-told.field-0.0 small (refusal_cause c.args.bounds c.args.bytes.now c.args.old.now c.args.new.now c.in_err-told.field-0.0 c.if-bytes-gt-MOST_BYTES.false c.in_err-told.ensures.refusal))

pub returns-then-ne-clause-back : goal.returns-then-ne-clause-back
returns-then-ne-clause-back c = λ certificate is short old new.
    let small : IsSmall c.args.bounds = record { edges = c.requires; old = omega arith; new = omega arith } in
    let other : c.in_ok-told.told.sum ≢ c.digest-sum.result = search rules in
    let found = sum_is c.args.bounds c.args.bytes.now c.in_ok-told.told.certificate certificate c.in_ok-told.told.sum small c.in_ok-told.ensures.says is in
    absurd (other (found ∙ ap sha256 (sym c.in_ok-told.ensures.before) ∙ sym c.digest-sum.ensures))

pub returns-then-ne-clause-exact : goal.returns-then-ne-clause-exact
returns-then-ne-clause-exact c =
    let small : IsSmall c.args.bounds = record { edges = c.requires; old = omega arith; new = omega arith } in
    let other : c.in_ok-told.told.sum ≢ c.digest-sum.result = search rules in
    let computed : c.digest-sum.result ≡ sha256 (text_before_end c.in_ok-told.told.certificate) = c.digest-sum.ensures ∙ ap sha256 c.in_ok-told.ensures.before in
    only_cause c.args.bounds c.args.bytes.now c.args.old.now c.args.new.now (Sum c.in_ok-told.told.sum c.digest-sum.result) small
    (c.if-bytes-gt-MOST_BYTES.false, c.in_ok-told.told.certificate, c.in_ok-told.ensures.says, computed, other)

pub returns-then-ne-2-clause-back : goal.returns-then-ne-2-clause-back
returns-then-ne-2-clause-back c = λ certificate is short old new.
    let small : IsSmall c.args.bounds = record { edges = c.requires; old = omega arith; new = omega arith } in
    let other : c.old_digest.result.now ≢ c.digest-old_digest.result = search rules in
    let told = told_is c.args.bounds c.args.bytes.now c.in_ok-told.told.certificate certificate c.in_ok-told.told.sum small c.in_ok-told.ensures.says is in
    absurd (other (c.old_digest.ensures.value ∙ ap (λ (h : CertificateParts). h.old) told ∙ old ∙ sym c.digest-old_digest.ensures))

pub returns-then-ne-2-clause-cause : goal.returns-then-ne-2-clause-cause
returns-then-ne-2-clause-cause c =
    let same : c.in_ok-told.told.sum ≡ c.digest-sum.result = search rules in
    let whole = told_whole c.args.bounds c.args.bytes.now c.in_ok-told.told.certificate c.in_ok-told.told.sum c.in_ok-told.ensures.says (same ∙ c.digest-sum.ensures ∙ ap sha256 c.in_ok-told.ensures.before) in
    let other : c.old_digest.result.now ≢ c.digest-old_digest.result = search rules in (
      c.if-bytes-gt-MOST_BYTES.false,
      c.in_ok-told.told.certificate,
      whole,
      c.old_digest-then-ne-2.ensures.value,
      c.digest-old_digest.ensures,
      (λ is. other (c.old_digest.ensures.value ∙ sym c.old_digest-then-ne-2.ensures.value ∙ is)),
    )

pub returns-then-ne-2-clause-exact : goal.returns-then-ne-2-clause-exact
returns-then-ne-2-clause-exact c =
    let small : IsSmall c.args.bounds = record { edges = c.requires; old = omega arith; new = omega arith } in
    only_cause c.args.bounds c.args.bytes.now c.args.old.now c.args.new.now (Old c.old_digest-then-ne-2.result.now c.digest-old_digest.result) small (returns-then-ne-2-clause-cause c)

pub returns-then-ne-3-clause-back : goal.returns-then-ne-3-clause-back
returns-then-ne-3-clause-back c = λ certificate is short old new.
    let small : IsSmall c.args.bounds = record { edges = c.requires; old = omega arith; new = omega arith } in
    let other : c.new_digest.result.now ≢ c.digest-new_digest.result = search rules in
    let told = told_is c.args.bounds c.args.bytes.now c.in_ok-told.told.certificate certificate c.in_ok-told.told.sum small c.in_ok-told.ensures.says is in
    absurd (other (c.new_digest.ensures.value ∙ ap (λ (h : CertificateParts). h.new) told ∙ new ∙ sym c.digest-new_digest.ensures))

pub returns-then-ne-3-clause-cause : goal.returns-then-ne-3-clause-cause
returns-then-ne-3-clause-cause c =
    let same : c.in_ok-told.told.sum ≡ c.digest-sum.result = search rules in
    let whole = told_whole c.args.bounds c.args.bytes.now c.in_ok-told.told.certificate c.in_ok-told.told.sum c.in_ok-told.ensures.says (same ∙ c.digest-sum.ensures ∙ ap sha256 c.in_ok-told.ensures.before) in
    let equal : c.old_digest.result.now ≡ c.digest-old_digest.result = search rules in
    let other : c.new_digest.result.now ≢ c.digest-new_digest.result = search rules in (
      c.if-bytes-gt-MOST_BYTES.false,
      c.in_ok-told.told.certificate,
      whole,
      sym c.old_digest.ensures.value ∙ equal ∙ c.digest-old_digest.ensures,
      c.new_digest-then-ne-3.ensures.value,
      c.digest-new_digest.ensures,
      (λ is. other (c.new_digest.ensures.value ∙ sym c.new_digest-then-ne-3.ensures.value ∙ is)),
    )

pub returns-then-ne-3-clause-exact : goal.returns-then-ne-3-clause-exact
returns-then-ne-3-clause-exact c =
    let small : IsSmall c.args.bounds = record { edges = c.requires; old = omega arith; new = omega arith } in
    only_cause c.args.bounds c.args.bytes.now c.args.old.now c.args.new.now (New c.new_digest-then-ne-3.result.now c.digest-new_digest.result) small (returns-then-ne-3-clause-cause c)

pub returns-clause-certificate : goal.returns-clause-certificate
returns-clause-certificate c =
    let same : c.in_ok-told.told.sum ≡ c.digest-sum.result = search rules in
    told_whole c.args.bounds c.args.bytes.now c.in_ok-told.told.certificate c.in_ok-told.told.sum c.in_ok-told.ensures.says (same ∙ c.digest-sum.ensures ∙ ap sha256 c.in_ok-told.ensures.before)

pub returns-clause-exact : goal.returns-clause-exact
returns-clause-exact c = λ error cause.
    let small : IsSmall c.args.bounds = record { edges = c.requires; old = omega arith; new = omega arith } in
    let same : c.in_ok-told.told.sum ≡ c.digest-sum.result = search rules in
    let whole = told_whole c.args.bounds c.args.bytes.now c.in_ok-told.told.certificate c.in_ok-told.told.sum c.in_ok-told.ensures.says (same ∙ c.digest-sum.ensures ∙ ap sha256 c.in_ok-told.ensures.before) in
    let equal : c.old_digest.result.now ≡ c.digest-old_digest.result = search rules in
    let equal' : c.new_digest.result.now ≡ c.digest-new_digest.result = search rules in
    cause_excludes c.args.bounds c.args.bytes.now c.args.old.now c.args.new.now error c.in_ok-told.told.certificate small cause whole c.if-bytes-gt-MOST_BYTES.false
    (sym c.old_digest.ensures.value ∙ equal ∙ c.digest-old_digest.ensures) (sym c.new_digest.ensures.value ∙ equal' ∙ c.digest-new_digest.ensures)

pub returns-clause-back : goal.returns-clause-back
returns-clause-back c = λ certificate is short old new.
    let small : IsSmall c.args.bounds = record { edges = c.requires; old = omega arith; new = omega arith } in
    told_is c.args.bounds c.args.bytes.now c.in_ok-told.told.certificate certificate c.in_ok-told.told.sum small c.in_ok-told.ensures.says is
