-- Statements that can be resolved, whatever stands round them; and lists of what they stand for. No definition of what a
-- source stands for needs this file.
use Rattle.std.specs.Prelude.{List, [], ◌∷◌, Option}
use Rattle.csub_types.specs.declared.kind.IntKind.{IntKind}
use Rattle.csub_tree.specs.Statements.{Stmt, StmtKind, Perhaps, Stmts, Line, Declared, Eval, Empty, Block, If, While, Do, For, Switch}
use Rattle.csub_tree.specs.Statements.{Case, Default, Break, Continue, Goto, Label, Return, NoStmt, OneStmt, NoStmts, MoreStmts}
use Rattle.csub_semantics.specs.Syntax.{StmtTree}
use Rattle.csub_rules.specs.Uses.{as_statement, as_part, as_number}
use Rattle.csub_rules.specs.BrokenUse.{FineUse}
use Rattle.csub_rules.specs.BrokenLocal.{FineDeclare}
use Rattle.csub_rules.specs.FineStmt.{FinePart}
use Rattle.csub_rules.specs.Here.{Here, entering}
use Rattle.csub_rules.specs.Past.{past, past_perhaps}
use Rattle.csub_resolution.specs.Values.{Defined}
use Rattle.csub_resolution.specs.Lines.{line}

-- The expressions and the declarations of a statement can be resolved. It computes to a product along the tree.
abbrev mutual
  pub Resolvable : Here → Stmt → Type 0
  Resolvable h (Line k s) = ResolvableLine h k

  pub ResolvableLine : Here → StmtKind → Type 0
  ResolvableLine h (Declared d) = FineDeclare h d
  ResolvableLine h (Eval e) = FineUse h.scope as_statement e
  ResolvableLine h Empty = Unit {0}
  ResolvableLine h (Block ss) = ResolvableLines (entering h) ss
  ResolvableLine h (If e x o) = FineUse h.scope as_number e × Resolvable h x × ResolvablePerhaps (past h x) o
  ResolvableLine h (While e x) = FineUse h.scope as_number e × Resolvable h x
  ResolvableLine h (Do x e) = FineUse h.scope as_number e × Resolvable h x
  ResolvableLine h (For x e f y) =
      ResolvablePerhaps (entering h) x
      × FinePart (past_perhaps (entering h) x).scope as_number e
      × FinePart (past_perhaps (entering h) x).scope as_part f
      × Resolvable (past_perhaps (entering h) x) y
  ResolvableLine h (Switch e ss) = FineUse h.scope as_number e × ResolvableLines (entering h) ss
  ResolvableLine h (Case e) = Unit {0}
  ResolvableLine h Default = Unit {0}
  ResolvableLine h Break = Unit {0}
  ResolvableLine h Continue = Unit {0}
  ResolvableLine h (Goto n) = Unit {0}
  ResolvableLine h (Label n x) = Resolvable h x
  ResolvableLine h (Return e) = FinePart h.scope as_number e

  pub ResolvablePerhaps : Here → Perhaps → Type 0
  ResolvablePerhaps h NoStmt = Unit {0}
  ResolvablePerhaps h (OneStmt x) = Resolvable h x

  pub ResolvableLines : Here → Stmts → Type 0
  ResolvableLines h NoStmts = Unit {0}
  ResolvableLines h (MoreStmts x rest) = Resolvable h x × ResolvableLines (past h x) rest

-- what lines stand for, one after the other
abbrev pub line_list : List Defined → Option IntKind → IntKind → Here → Stmts → List StmtTree
line_list defined result kind h NoStmts = []
line_list defined result kind h (MoreStmts a rest) = line defined result kind h a ∷ line_list defined result kind (past h a) rest
