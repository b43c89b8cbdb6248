-- The laws of faults of statements and of lines.
use Rattle.std.specs.Prelude.{◌≡◌, Some, None}
use Rattle.csub_tree.specs.Statements.{Stmt, Stmts}
use Rattle.csub_scopes.specs.Scopes.{HasTypes}
use Rattle.csub_rules.specs.declared.fault.Fault.{Fault}
use Rattle.csub_rules.specs.Faults.{IsFirst}
use Rattle.csub_rules.specs.Here.{Here}
use Rattle.csub_rules.specs.StmtFaults.{Surroundings, stmt_fault, lines_fault}
use Rattle.csub_rules.specs.BrokenStmt.{BrokenStmt, BrokenLines}
use Rattle.csub_rules.specs.FineStmt.{FineStmt, FineLines}

-- a fault is a broken rule
abbrev pub StmtFaultsAreBroken : Type 0
StmtFaultsAreBroken = (a : Surroundings) (h : Here) (t : Stmt) (f : Fault) → stmt_fault a h t ≡ Some f → BrokenStmt a h t f

-- no rule is broken before it
abbrev pub StmtFaultsAreLeast : Type 0
StmtFaultsAreLeast = (a : Surroundings) (h : Here) (t : Stmt) (f g : Fault) → stmt_fault a h t ≡ Some f → BrokenStmt a h t g → IsFirst f g

-- where there is none, no rule is broken
abbrev pub NoStmtFaultNothingBroken : Type 0
NoStmtFaultNothingBroken = (a : Surroundings) (h : Here) (t : Stmt) (g : Fault) → stmt_fault a h t ≡ None → BrokenStmt a h t g → ⊥

-- and the statement can be resolved, where each object that it sees has a type
abbrev pub NoStmtFaultIsFine : Type 0
NoStmtFaultIsFine = (a : Surroundings) (h : Here) (t : Stmt) → HasTypes h.scope → stmt_fault a h t ≡ None → FineStmt a h t

-- the same of lines
abbrev pub LineFaultsAreBroken : Type 0
LineFaultsAreBroken = (a : Surroundings) (h : Here) (ss : Stmts) (f : Fault) → lines_fault a h ss ≡ Some f → BrokenLines a h ss f

abbrev pub LineFaultsAreLeast : Type 0
LineFaultsAreLeast = (a : Surroundings) (h : Here) (ss : Stmts) (f g : Fault) → lines_fault a h ss ≡ Some f → BrokenLines a h ss g → IsFirst f g

abbrev pub NoLineFaultNothingBroken : Type 0
NoLineFaultNothingBroken = (a : Surroundings) (h : Here) (ss : Stmts) (g : Fault) → lines_fault a h ss ≡ None → BrokenLines a h ss g → ⊥

abbrev pub NoLineFaultIsFine : Type 0
NoLineFaultIsFine = (a : Surroundings) (h : Here) (ss : Stmts) → HasTypes h.scope → lines_fault a h ss ≡ None → FineLines a h ss
