use Rattle.std.proofs.Common.{◌≡◌, ◌≢◌, ◌∙◌, ap, refl, sym, rules}
use Rattle.sha2.specs.Sha256.{sha256}
use Rattle.test_history.specs.Causes.{IsOnlyCause}
use Rattle.test_history.specs.declared.error.HistoryError.TheVariants.{Sum, Foreign, EdgeCount}
use Rattle.test_history.specs.Histories.{HistoryParts}
use Rattle.test_history.specs.HistoryTexts.{text_before_end}
use Rattle.test_history.proofs.CauseLemmas.{sum_is, told_is, told_whole, only_memory, passed_on, cause_excludes, refusal_cause, only_cause, passed_only}
use Rattle.test_history.proofs.reader.read_text.Goals as goal

pub returns-in_err-told-clause-back : goal.returns-in_err-told-clause-back
returns-in_err-told-clause-back c = λ history readable is short digest edges.
    passed_on c.from_residual.result _ c.in_err-told.field-0.0 c.from_residual.ensures.1 (only_memory c.args.version c.args.bytes.now history c.in_err-told.field-0.0 readable is c.in_err-told.ensures.refusal)

pub returns-then-ne-clause-back : goal.returns-then-ne-clause-back
returns-then-ne-clause-back c = λ history readable is short digest edges.
    let other : c.in_ok-told.told.sum ≢ c.digest_of-sum.result = search rules in
    let found = sum_is c.args.version c.args.bytes.now c.in_ok-told.told.history history c.in_ok-told.told.sum c.in_ok-told.ensures.says readable is in
    absurd (other (found ∙ ap sha256 (sym c.in_ok-told.ensures.before) ∙ sym c.digest_of-sum.ensures))

pub returns-then-ne-2-clause-back : goal.returns-then-ne-2-clause-back
returns-then-ne-2-clause-back c = λ history readable is short digest edges.
    let other : c.digest.result.now ≢ c.digest_of-digest.result = search rules in
    let told = told_is c.args.version c.args.bytes.now c.in_ok-told.told.history history c.in_ok-told.told.sum c.in_ok-told.ensures.says readable is in
    absurd (other (c.digest.ensures.value ∙ ap (λ (h : HistoryParts). h.digest) told ∙ digest ∙ sym c.digest_of-digest.ensures))

pub returns-then-edges-clause-back : goal.returns-then-edges-clause-back
returns-then-edges-clause-back c = λ history readable is short digest edges.
    let told = told_is c.args.version c.args.bytes.now c.in_ok-told.told.history history c.in_ok-told.told.sum c.in_ok-told.ensures.says readable is in
    absurd (c.if-edges.true (c.edges.ensures ∙ ap (λ (h : HistoryParts). h.edges) told ∙ edges))

pub returns-clause-history : goal.returns-clause-history
returns-clause-history c =
    let same : c.in_ok-told.told.sum ≡ c.digest_of-sum.result = search rules in
    told_whole c.args.version c.args.bytes.now c.in_ok-told.told.history c.in_ok-told.told.sum c.in_ok-told.ensures.says (same ∙ c.digest_of-sum.ensures ∙ ap sha256 c.in_ok-told.ensures.before)

pub returns-clause-back : goal.returns-clause-back
returns-clause-back c = λ history readable is short digest edges.
    told_is c.args.version c.args.bytes.now c.in_ok-told.told.history history c.in_ok-told.told.sum c.in_ok-told.ensures.says readable is

pub returns-in_err-told-clause-exact : goal.returns-in_err-told-clause-exact
returns-in_err-told-clause-exact c =
    passed_only c.from_residual.result _ (IsOnlyCause c.args.version c.args.bytes.now c.args.old.now c.args.edges) c.in_err-told.field-0.0 c.from_residual.ensures.1
    (only_cause c.args.version c.args.bytes.now c.args.old.now c.args.edges c.in_err-told.field-0.0 (refusal_cause c.args.version c.args.bytes.now c.args.old.now c.args.edges c.in_err-told.field-0.0 c.if-bytes-gt-MOST_BYTES.false c.in_err-told.ensures.refusal))

pub returns-then-ne-clause-exact : goal.returns-then-ne-clause-exact
returns-then-ne-clause-exact c =
    let other : c.in_ok-told.told.sum ≢ c.digest_of-sum.result = search rules in
    let computed : c.digest_of-sum.result ≡ sha256 (text_before_end c.args.version c.in_ok-told.told.history) = c.digest_of-sum.ensures ∙ ap sha256 c.in_ok-told.ensures.before in
    only_cause c.args.version c.args.bytes.now c.args.old.now c.args.edges (Sum c.in_ok-told.told.sum c.digest_of-sum.result)
    (c.if-bytes-gt-MOST_BYTES.false, c.in_ok-told.told.history, c.in_ok-told.ensures.says, computed, other)

pub returns-then-ne-2-clause-cause : goal.returns-then-ne-2-clause-cause
returns-then-ne-2-clause-cause c =
    let same : c.in_ok-told.told.sum ≡ c.digest_of-sum.result = search rules in
    let whole = told_whole c.args.version c.args.bytes.now c.in_ok-told.told.history c.in_ok-told.told.sum c.in_ok-told.ensures.says (same ∙ c.digest_of-sum.ensures ∙ ap sha256 c.in_ok-told.ensures.before) in
    let other : c.digest.result.now ≢ c.digest_of-digest.result = search rules in (
      c.if-bytes-gt-MOST_BYTES.false,
      c.in_ok-told.told.history,
      c.in_ok-told.ensures.says.readable,
      whole,
      c.digest-then-ne-2.ensures.value,
      c.digest_of-digest.ensures,
      (λ is. other (c.digest.ensures.value ∙ sym c.digest-then-ne-2.ensures.value ∙ is)),
    )

pub returns-then-ne-2-clause-exact : goal.returns-then-ne-2-clause-exact
returns-then-ne-2-clause-exact c =
    only_cause c.args.version c.args.bytes.now c.args.old.now c.args.edges (Foreign c.digest-then-ne-2.result.now c.digest_of-digest.result) (returns-then-ne-2-clause-cause c)

pub returns-then-edges-clause-cause : goal.returns-then-edges-clause-cause
returns-then-edges-clause-cause c =
    let same : c.in_ok-told.told.sum ≡ c.digest_of-sum.result = search rules in
    let whole = told_whole c.args.version c.args.bytes.now c.in_ok-told.told.history c.in_ok-told.told.sum c.in_ok-told.ensures.says (same ∙ c.digest_of-sum.ensures ∙ ap sha256 c.in_ok-told.ensures.before) in
    let equal : c.digest.result.now ≡ c.digest_of-digest.result = search rules in (
      c.if-bytes-gt-MOST_BYTES.false,
      c.in_ok-told.told.history,
      c.in_ok-told.ensures.says.readable,
      whole,
      sym c.digest.ensures.value ∙ equal ∙ c.digest_of-digest.ensures,
      c.edges-then-edges.ensures,
      refl,
      (λ is. c.if-edges.true (c.edges.ensures ∙ sym c.edges-then-edges.ensures ∙ is)),
    )

pub returns-then-edges-clause-exact : goal.returns-then-edges-clause-exact
returns-then-edges-clause-exact c =
    only_cause c.args.version c.args.bytes.now c.args.old.now c.args.edges (EdgeCount c.edges-then-edges.result c.args.edges) (returns-then-edges-clause-cause c)

pub returns-clause-exact : goal.returns-clause-exact
returns-clause-exact c = λ error cause.
    let same : c.in_ok-told.told.sum ≡ c.digest_of-sum.result = search rules in
    let whole = told_whole c.args.version c.args.bytes.now c.in_ok-told.told.history c.in_ok-told.told.sum c.in_ok-told.ensures.says (same ∙ c.digest_of-sum.ensures ∙ ap sha256 c.in_ok-told.ensures.before) in
    let equal : c.digest.result.now ≡ c.digest_of-digest.result = search rules in
    cause_excludes c.args.version c.args.bytes.now c.args.old.now c.args.edges error c.in_ok-told.told.history cause c.in_ok-told.ensures.says.readable whole c.if-bytes-gt-MOST_BYTES.false
    (sym c.digest.ensures.value ∙ equal ∙ c.digest_of-digest.ensures) (sym c.edges.ensures ∙ c.if-edges.false)
