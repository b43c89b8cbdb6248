use Rattle.suite_run.proofs.JoinLemmas.{joins_more}
use Rattle.suite_run.proofs.parts.join_parts.Goals as goal

pub loop-part-preserved : goal.loop-part-preserved
loop-part-preserved c = rw (c.in_ok-append.ensures.items, c.in_ok-taken.was) (joins_more _ _ _ c.loop-part.invariant)
