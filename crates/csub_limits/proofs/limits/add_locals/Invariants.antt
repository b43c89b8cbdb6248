use Rattle.std.proofs.Common.{◌≡◌, ◌+◌, sum_by, take}
use Rattle.csub_limits.specs.Counts.{local_cells}
use Rattle.csub_limits.proofs.limits.add_locals.Given as goal

abbrev pub invariant-loop-local : goal.invariant-loop-local
invariant-loop-local l = l.sum ≡ l.start + sum_by local_cells (take l.local-index l.locals)
