use Rattle.std.proofs.Common.{arith}
use Rattle.std.proofs.lemmas.Grind.{common_steps}
use Rattle.csub_check.proofs.Counts.{count_is}
use Rattle.csub_check.proofs.format.asks_for.Goals as goal

pub returns-in-Some : goal.returns-in-Some
returns-in-Some c = grind (arith, common_steps, count_is c.args.rest.now)
