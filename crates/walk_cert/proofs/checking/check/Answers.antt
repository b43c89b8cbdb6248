use Rattle.std.proofs.Common.{◌≡◌}
use Rattle.std.proofs.lemmas.Result.{IfOk-weaker}
use Rattle.walk_cert.specs.Verdicts.{IsVerdict}
use Rattle.walk_cert.specs.declared.answer.Verdict.TheVariants.{Closed}
use Rattle.walk_cert.proofs.ExactLemmas.{closed_only}
use Rattle.walk_cert.proofs.checking.check.Goals as goal

pub returns-clause-closed : goal.returns-clause-closed
returns-clause-closed c P P' ok ok' closed =
    let row = c.args.certificate.now.danger in
    let pairs = c.args.certificate.now.pairs in
    IfOk-weaker c.check_counted.result (IsVerdict P P' row pairs) (λ v. v ≡ Closed) (λ v found. closed_only P P' ok.valid row pairs closed v found) (c.check_counted.ensures P P' ok ok')
