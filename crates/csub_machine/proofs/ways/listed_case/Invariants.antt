use Rattle.std.proofs.Common.{ℕ, ◌≢◌, ◌<◌, get_or}
use Rattle.csub_flat.specs.declared.ways.CaseWay.{CaseWay}
use Rattle.csub_machine.proofs.ways.listed_case.Given as goal

-- no row before this one has the value
abbrev pub invariant-loop-row : goal.invariant-loop-row
invariant-loop-row l = (k : ℕ) (d : CaseWay) → k < l.row-index → (get_or l.rows k d).value ≢ l.value
