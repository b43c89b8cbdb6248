use Rattle.std.proofs.Common.{arith}
use Rattle.cert_text.proofs.values.read_number.Goals as goal

pub returns-in_err-number : goal.returns-in_err-number
returns-in_err-number c = rw c.from_residual.ensures (λ number has. c.in_err-number.ensures number (omega (arith, has.0, c.from.ensures), has.1))
