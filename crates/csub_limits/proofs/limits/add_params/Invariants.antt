use Rattle.std.proofs.Common.{◌≡◌, ◌+◌, sum_by, take}
use Rattle.csub_limits.specs.Counts.{param_cells}
use Rattle.csub_limits.proofs.limits.add_params.Given as goal

abbrev pub invariant-loop-param : goal.invariant-loop-param
invariant-loop-param l = l.sum ≡ l.start + sum_by param_cells (take l.param-index l.params)
