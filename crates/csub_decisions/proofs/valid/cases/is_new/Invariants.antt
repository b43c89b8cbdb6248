use Rattle.std.specs.List.{AllWithin}
use Rattle.csub_semantics.specs.declared.function.RStmt.{RStmt}
use Rattle.csub_semantics.specs.Syntax.{stmt_tree}
use Rattle.csub_semantics.specs.Successors.{case_of}
use Rattle.csub_decisions.specs.ProgramChecks.{AreOtherCases}
use Rattle.csub_decisions.proofs.valid.cases.is_new.Given as goal

abbrev pub invariant-loop-i : goal.invariant-loop-i
invariant-loop-i l = AllWithin (λ (s : RStmt). AreOtherCases (case_of (stmt_tree s)) l.case) l.stmts 0 l.i
