use Rattle.std.proofs.Common.{ℕ, ◌<◌, get_or}
use Rattle.csub_semantics.specs.declared.function.RStmt.{RStmt}
use Rattle.csub_decisions.proofs.ValidCases.{AreOtherLines}
use Rattle.csub_decisions.proofs.valid.cases.cases_differ.Given as goal

abbrev pub invariant-loop-i : goal.invariant-loop-i
invariant-loop-i l = (k j : ℕ) (d : RStmt) → k < j → j < l.i → AreOtherLines (get_or l.stmts k d) (get_or l.stmts j d)
