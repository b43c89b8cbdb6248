-- Expressions as values: the trees of the code without where they lie in memory.
use Rattle.std.specs.Prelude.{ℕ, Bool, List, [], ◌∷◌, Option}
use Rattle.csub_text.specs.declared.span.Span.{Span}
use Rattle.csub_text.specs.declared.operator.UnaryOp.{UnaryOp}
use Rattle.csub_text.specs.declared.operator.StepOp.{StepOp}
use Rattle.csub_text.specs.declared.operator.BinOp.{BinOp}
use Rattle.csub_tree.specs.declared.name.Name.{Name}
use Rattle.csub_tree.specs.declared.name.TypeName.{TypeName}
use Rattle.csub_tree.specs.declared.expression.Expr.{Expr as CodeExpr, Expr-F, fold-Expr}
use Rattle.csub_tree.specs.declared.expression.ExprKind.{ExprKind, fold-ExprKind}
use Rattle.csub_tree.specs.declared.expression.ExprKind.TheOpen.{ExprKind-F}

mutual
  pub data Expr : Type 0 where
    Node : Kind → Span → Expr

  pub data Kind : Type 0 where
    Number : ℕ → Bool → Kind
    Char : ℕ → Kind
    Text : List ℕ → Kind
    Named : Name → Kind
    Paren : Expr → Kind
    Unary : UnaryOp → Expr → Kind
    Cast : TypeName → Expr → Kind
    Step : StepOp → Expr → Kind
    Binary : BinOp → Expr → Expr → Kind
    And : Expr → Expr → Kind
    Or : Expr → Expr → Kind
    Choose : Expr → Expr → Expr → Kind
    Assign : Option BinOp → Expr → Expr → Kind
    Call : Name → Exprs → Kind
    Index : Expr → Expr → Kind
    Member : Expr → Name → Kind

  pub data Exprs : Type 0 where
    NoExprs : Exprs
    MoreExprs : Expr → Exprs → Exprs

abbrev pub exprs_of : List Expr → Exprs
exprs_of [] = NoExprs
exprs_of (e ∷ es) = MoreExprs e (exprs_of es)

abbrev pub span_of : Expr → Span
span_of (Node k s) = s

-- the trees of the code: one node, with the trees inside already seen
abbrev pub kind_step : ExprKind-F Kind Expr → Kind
kind_step (ExprKind-F.Number n u) = Number n u
kind_step (ExprKind-F.Char b) = Char b
kind_step (ExprKind-F.Text t) = Text t
kind_step (ExprKind-F.Name n) = Named n
kind_step (ExprKind-F.Paren e) = Paren e.value
kind_step (ExprKind-F.Unary o e) = Unary o e.value
kind_step (ExprKind-F.Cast t e) = Cast t e.value
kind_step (ExprKind-F.Step o e) = Step o e.value
kind_step (ExprKind-F.Binary o a b) = Binary o a.value b.value
kind_step (ExprKind-F.And a b) = And a.value b.value
kind_step (ExprKind-F.Or a b) = Or a.value b.value
kind_step (ExprKind-F.Choose a b c) = Choose a.value b.value c.value
kind_step (ExprKind-F.Assign o a b) = Assign o a.value b.value
kind_step (ExprKind-F.Call n es) = Call n (exprs_of es.items)
kind_step (ExprKind-F.Index a b) = Index a.value b.value
kind_step (ExprKind-F.Member a n) = Member a.value n

abbrev pub expr_step : Expr-F Kind Expr → Expr
expr_step e = Node e.kind e.span

abbrev pub expr_tree : CodeExpr → Expr
expr_tree = fold-Expr Kind Expr kind_step expr_step

abbrev pub kind_tree : ExprKind → Kind
kind_tree = fold-ExprKind Kind Expr kind_step expr_step
