use Rattle.suite_run.proofs.JoinLemmas.{ok_joined}
use Rattle.suite_run.proofs.run_all.Goals as goal

pub returns : goal.returns
returns g c = ok_joined _ _ c.div_ceil-size.result _ _ c.in_ok-parts.ensures.parts c.in_ok-parts.ensures.enough c.join_parts.ensures
