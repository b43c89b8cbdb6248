-- Statements as values.
use Rattle.std.specs.Prelude.{List, [], ◌∷◌, Option, Some, None}
use Rattle.std.specs.Option.{option_map}
use Rattle.csub_text.specs.declared.span.Span.{Span}
use Rattle.csub_tree.specs.declared.name.Name.{Name}
use Rattle.csub_tree.specs.declared.statement.Stmt.{Stmt as CodeStmt, Stmt-F, fold-Stmt}
use Rattle.csub_tree.specs.declared.statement.StmtKind.{StmtKind as CodeStmtKind, fold-StmtKind}
use Rattle.csub_tree.specs.declared.statement.StmtKind.TheOpen.{StmtKind-F}
use Rattle.csub_tree.specs.Expressions.{Expr, expr_tree}
use Rattle.csub_tree.specs.Declarations.{Declare, declare_tree}

mutual
  pub data Stmt : Type 0 where
    Line : StmtKind → Span → Stmt

  pub data StmtKind : Type 0 where
    Declared : Declare → StmtKind
    Eval : Expr → StmtKind
    Empty : StmtKind
    Block : Stmts → StmtKind
    If : Expr → Stmt → Perhaps → StmtKind
    While : Expr → Stmt → StmtKind
    Do : Stmt → Expr → StmtKind
    For : Perhaps → Option Expr → Option Expr → Stmt → StmtKind
    Switch : Expr → Stmts → StmtKind
    Case : Expr → StmtKind
    Default : StmtKind
    Break : StmtKind
    Continue : StmtKind
    Goto : Name → StmtKind
    Label : Name → Stmt → StmtKind
    Return : Option Expr → StmtKind

  -- a statement or none
  pub data Perhaps : Type 0 where
    NoStmt : Perhaps
    OneStmt : Stmt → Perhaps

  pub data Stmts : Type 0 where
    NoStmts : Stmts
    MoreStmts : Stmt → Stmts → Stmts

abbrev pub stmts_of : List Stmt → Stmts
stmts_of [] = NoStmts
stmts_of (s ∷ ss) = MoreStmts s (stmts_of ss)

abbrev pub perhaps_of : Option Stmt → Perhaps
perhaps_of None = NoStmt
perhaps_of (Some s) = OneStmt s

-- the trees of the code: one node, with the trees inside already seen
abbrev pub kind_step : StmtKind-F StmtKind Stmt → StmtKind
kind_step (StmtKind-F.Declare d) = Declared (declare_tree d)
kind_step (StmtKind-F.Eval e) = Eval (expr_tree e)
kind_step StmtKind-F.Empty = Empty
kind_step (StmtKind-F.Block ss) = Block (stmts_of ss.items)
kind_step (StmtKind-F.If e a None) = If (expr_tree e) a.value NoStmt
kind_step (StmtKind-F.If e a (Some b)) = If (expr_tree e) a.value (OneStmt b.value)
kind_step (StmtKind-F.While e a) = While (expr_tree e) a.value
kind_step (StmtKind-F.Do a e) = Do a.value (expr_tree e)
kind_step (StmtKind-F.For None e f a) = For NoStmt (option_map expr_tree e) (option_map expr_tree f) a.value
kind_step (StmtKind-F.For (Some b) e f a) = For (OneStmt b.value) (option_map expr_tree e) (option_map expr_tree f) a.value
kind_step (StmtKind-F.Switch e ss) = Switch (expr_tree e) (stmts_of ss.items)
kind_step (StmtKind-F.Case e) = Case (expr_tree e)
kind_step StmtKind-F.Default = Default
kind_step StmtKind-F.Break = Break
kind_step StmtKind-F.Continue = Continue
kind_step (StmtKind-F.Goto n) = Goto n
kind_step (StmtKind-F.Label n a) = Label n a.value
kind_step (StmtKind-F.Return e) = Return (option_map expr_tree e)

abbrev pub stmt_step : Stmt-F StmtKind Stmt → Stmt
stmt_step s = Line s.kind s.span

abbrev pub stmt_tree : CodeStmt → Stmt
stmt_tree = fold-Stmt StmtKind Stmt kind_step stmt_step

abbrev pub line_tree : CodeStmtKind → StmtKind
line_tree = fold-StmtKind StmtKind Stmt kind_step stmt_step
