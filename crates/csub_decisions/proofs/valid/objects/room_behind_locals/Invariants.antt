use Rattle.std.proofs.Common.{◌≡◌, ◌+◌, sum_by, take}
use Rattle.csub_limits.specs.Counts.{local_cells}
use Rattle.csub_decisions.proofs.valid.objects.room_behind_locals.Given as goal

abbrev pub invariant-loop-local : goal.invariant-loop-local
invariant-loop-local l = l.room + sum_by local_cells (take l.local-index l.locals) ≡ l.most
