use Rattle.std.proofs.Common.{◌≡◌, ◌+◌, sum_by, take}
use Rattle.csub_decisions.specs.ProgramChecks.{cells_of}
use Rattle.csub_decisions.proofs.valid.globals.has_few_cells.Given as goal

abbrev pub invariant-loop-global : goal.invariant-loop-global
invariant-loop-global l = l.room + sum_by cells_of (take l.global-index l.globals) ≡ 65536
