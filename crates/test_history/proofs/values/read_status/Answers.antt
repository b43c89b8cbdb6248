use Rattle.std.proofs.Common.{codes, subst}
use Rattle.line_text.specs.Lines.{HasLine}
use Rattle.line_text.proofs.LawsOfValues.{one_value}
use Rattle.test_history.proofs.StatusLemmas.{status_line}
use Rattle.test_history.proofs.values.read_status.Goals as goal

pub returns-in_err-status : goal.returns-in_err-status
returns-in_err-status c = rw c.from_residual-in_err-status.ensures (λ status fits has.
    c.in_err-status.ensures status fits
    (one_value c.args.text.now 1 (codes "status") c.in_ok-value.value.bytes.now _ c.in_ok-value.ensures.line (subst (HasLine c.args.text.now 1) (status_line (codes "status") status) has)))
