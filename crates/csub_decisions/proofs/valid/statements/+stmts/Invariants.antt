use Rattle.std.proofs.Common.{ℕ, ◌<◌, get_or}
use Rattle.csub_semantics.specs.declared.function.RStmt.{RStmt}
use Rattle.csub_semantics.specs.Syntax.{stmt_tree, function_tree}
use Rattle.csub_validity.specs.Valid.{IsStmt}
use Rattle.csub_decisions.specs.Checks.{tree_of}
use Rattle.csub_decisions.proofs.valid.statements.+stmts.Given as goal

abbrev pub invariant-are_stmts-loop-stmt : goal.invariant-are_stmts-loop-stmt
invariant-are_stmts-loop-stmt l =
    (k : ℕ) (d : RStmt) → k < l.stmt-index → IsStmt (tree_of l.program) (function_tree l.function) l.targets (stmt_tree (get_or l.stmts k d))
