-- What is declared behind a statement.
use Rattle.csub_tree.specs.Statements.{Stmt, StmtKind, Perhaps, Stmts, Line, Declared, Eval, Empty, Block, If, While, Do, For, Switch}
use Rattle.csub_tree.specs.Statements.{Case, Default, Break, Continue, Goto, Label, Return, NoStmt, OneStmt, NoStmts, MoreStmts}
use Rattle.csub_rules.specs.Here.{Here, entering, leaving}
use Rattle.csub_rules.specs.Locals.{past_declare}

-- Lines in braces and a `for` are blocks (C11 6.8.2 and 6.8.5p5). Other statements inside a statement declare nothing outside
-- of blocks, so they need no scope of their own.
abbrev mutual
  pub past : Here → Stmt → Here
  past here (Line k s) = past_kind here k

  pub past_kind : Here → StmtKind → Here
  past_kind here (Declared d) = past_declare here d
  past_kind here (Eval e) = here
  past_kind here Empty = here
  past_kind here (Block ss) = leaving here (past_lines (entering here) ss)
  past_kind here (If e a b) = past_perhaps (past here a) b
  past_kind here (While e a) = past here a
  past_kind here (Do a e) = past here a
  past_kind here (For b e f a) = leaving here (past (past_perhaps (entering here) b) a)
  past_kind here (Switch e ss) = leaving here (past_lines (entering here) ss)
  past_kind here (Case e) = here
  past_kind here Default = here
  past_kind here Break = here
  past_kind here Continue = here
  past_kind here (Goto x) = here
  past_kind here (Label x a) = past here a
  past_kind here (Return e) = here

  pub past_perhaps : Here → Perhaps → Here
  past_perhaps here NoStmt = here
  past_perhaps here (OneStmt a) = past here a

  -- each line sees what the lines before it declare
  pub past_lines : Here → Stmts → Here
  past_lines here NoStmts = here
  past_lines here (MoreStmts a rest) = past_lines (past here a) rest
