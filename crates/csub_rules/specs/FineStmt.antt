-- Statements that can be resolved. It computes to a product along the tree.
use Rattle.std.specs.Prelude.{[], Option, Some, None, IsTrue, is_some, not}
use Rattle.csub_tree.specs.Expressions.{Expr}
use Rattle.csub_tree.specs.Statements.{Stmt, StmtKind, Perhaps, Stmts, Line, Declared, Eval, Empty, Block, If, While, Do, For, Switch}
use Rattle.csub_tree.specs.Statements.{Case, Default, Break, Continue, Goto, Label, Return, NoStmt, OneStmt, NoStmts, MoreStmts}
use Rattle.csub_scopes.specs.Scopes.{Scope}
use Rattle.csub_rules.specs.Uses.{Use, as_part, as_number, as_constant}
use Rattle.csub_rules.specs.BrokenUse.{FineUse}
use Rattle.csub_rules.specs.Here.{Here, entering, is_reserved}
use Rattle.csub_rules.specs.Past.{past, past_perhaps}
use Rattle.csub_rules.specs.CaseLabels.{switch_kind}
use Rattle.csub_rules.specs.StmtFaults.{Surroundings, in_loop, in_switch, in_first_part, is_label}
use Rattle.csub_rules.specs.BrokenLocal.{FineDeclare}
use Rattle.csub_rules.specs.BrokenLabel.{LabelsDiffer}

abbrev pub FinePart : Scope → Use → Option Expr → Type 0
FinePart scope u None = Unit {0}
FinePart scope u (Some e) = FineUse scope u e

abbrev pub FineReturn : Surroundings → Scope → Option Expr → Type 0
FineReturn a scope None = IsTrue (not (is_some a.result))
FineReturn a scope (Some e) = IsTrue (is_some a.result) × FineUse scope as_number e

abbrev mutual
  pub FineStmt : Surroundings → Here → Stmt → Type 0
  FineStmt a h (Line k s) = FineLine a h k

  pub FineLine : Surroundings → Here → StmtKind → Type 0
  FineLine a h (Declared d) = FineDeclare h d
  FineLine a h (Eval e) = FineUse h.scope a.statement e
  FineLine a h Empty = Unit {0}
  FineLine a h (Block ss) = FineLines a (entering h) ss
  FineLine a h (If e x o) = FineUse h.scope as_number e × FineStmt a h x × FinePerhaps a (past h x) o
  FineLine a h (While e x) = FineUse h.scope as_number e × FineStmt (in_loop a) h x
  FineLine a h (Do x e) = FineUse h.scope as_number e × FineStmt (in_loop a) h x
  FineLine a h (For x e f y) =
      FinePerhaps (in_first_part a) (entering h) x
      × FinePart (past_perhaps (entering h) x).scope as_number e
      × FinePart (past_perhaps (entering h) x).scope as_part f
      × FineStmt (in_loop a) (past_perhaps (entering h) x) y
  FineLine a h (Switch e ss) =
      FineUse h.scope as_number e × FineLines (in_switch a) (entering h) ss × LabelsDiffer (switch_kind h.scope e) (entering h) [] ss
  FineLine a h (Case e) = FineUse h.scope as_constant e
  FineLine a h Default = Unit {0}
  FineLine a h Break = IsTrue a.can_break
  FineLine a h Continue = IsTrue a.can_continue
  FineLine a h (Goto n) = IsTrue (is_label a.labels n.text)
  FineLine a h (Label n x) = IsTrue (not (is_reserved n.text)) × FineStmt a h x
  FineLine a h (Return e) = FineReturn a h.scope e

  pub FinePerhaps : Surroundings → Here → Perhaps → Type 0
  FinePerhaps a h NoStmt = Unit {0}
  FinePerhaps a h (OneStmt x) = FineStmt a h x

  pub FineLines : Surroundings → Here → Stmts → Type 0
  FineLines a h NoStmts = Unit {0}
  FineLines a h (MoreStmts x rest) = FineStmt a h x × FineLines a (past h x) rest
