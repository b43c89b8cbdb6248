use Rattle.std.proofs.Common.{arith}
use Rattle.csub_decisions.proofs.ValidStart.{start_body_is_one}
use Rattle.csub_decisions.proofs.valid.start.is_start_body.Goals as goal

pub returns-in_default-2 : goal.returns-in_default-2
returns-in_default-2 c = (λ h. cc, λ h. absurd (omega (arith, start_body_is_one c.args.body.now h)))
