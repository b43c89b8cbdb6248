use Rattle.std.proofs.Common.{codes}
use Rattle.cert_text.proofs.values.read_title.Goals as goal

pub returns-in_err-value : goal.returns-in_err-value
returns-in_err-value c = rw c.from_residual.ensures (λ has. c.in_err-value.ensures.cut (codes "1") has)
