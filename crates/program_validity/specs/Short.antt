-- Programs whose lists are short: what no rule of the language bounds.
use Rattle.std.specs.Prelude.{◌≤◌, All, length}
use Rattle.csub_semantics.specs.Syntax.{StmtTree, StmtTrees, ElseTree, parts, block, conditional, while_loop, do_loop, for_loop}
use Rattle.csub_semantics.specs.Syntax.{switch_on, case_label, default_label, breaks, continues, goes_to, marked, no_stmt, more_stmts}
use Rattle.csub_semantics.specs.Syntax.{no_else, else_stmt, FunctionTree, ProgramTree}
use Rattle.csub_validity.specs.Valid.{most_entries, stmt_count}

-- no list of statements, and no list of parts, is longer than 1,048,576
abbrev mutual
  pub ShortStmt : StmtTree → Type 0
  ShortStmt (parts ps) = length ps ≤ most_entries
  ShortStmt (block stmts) = (stmt_count stmts ≤ most_entries) × ShortEach stmts
  ShortStmt (conditional p t e) = ShortStmt t × ShortElse e
  ShortStmt (while_loop p s) = ShortStmt s
  ShortStmt (do_loop s p) = ShortStmt s
  ShortStmt (for_loop first p third s) = (length first ≤ most_entries) × ShortStmt s
  ShortStmt (switch_on p stmts) = (stmt_count stmts ≤ most_entries) × ShortEach stmts
  ShortStmt (case_label v) = Unit {0}
  ShortStmt default_label = Unit {0}
  ShortStmt breaks = Unit {0}
  ShortStmt continues = Unit {0}
  ShortStmt (goes_to a p) = Unit {0}
  ShortStmt (marked a s) = ShortStmt s

  pub ShortEach : StmtTrees → Type 0
  ShortEach no_stmt = Unit {0}
  ShortEach (more_stmts s rest) = ShortStmt s × ShortEach rest

  pub ShortElse : ElseTree → Type 0
  ShortElse no_else = Unit {0}
  ShortElse (else_stmt s) = ShortStmt s

abbrev pub ShortLines : StmtTrees → Type 0
ShortLines stmts = (stmt_count stmts ≤ most_entries) × ShortEach stmts

-- of each function of a program
abbrev pub AreShort : ProgramTree → Type 0
AreShort P = All (λ (f : FunctionTree). ShortLines f.body) P.functions
