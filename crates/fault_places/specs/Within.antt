-- Trees whose places lie within so many bytes.
use Rattle.std.specs.Prelude.{ℕ, ◌≤◌, List, [], ◌∷◌, Option, Some, None}
use Rattle.csub_text.specs.declared.span.Span.{Span}
use Rattle.csub_tree.specs.declared.name.Name.{Name}
use Rattle.csub_tree.specs.declared.name.TypeName.{TypeName}
use Rattle.csub_tree.specs.declared.name.TypeName.TheVariants as types
use Rattle.csub_tree.specs.Expressions.{Expr, Kind, Exprs, Node, Number, Char, Text, Named, Paren, Unary, Cast, Step, Binary, And, Or}
use Rattle.csub_tree.specs.Expressions.{Choose, Assign, Call, Index, Member, NoExprs, MoreExprs}
use Rattle.csub_tree.specs.Declarations.{Init, Inits, One, Listed, NoInits, MoreInits, Declarator, Declare, Param, Head}
use Rattle.csub_tree.specs.Statements.{Stmt, StmtKind, Perhaps, Stmts, Line, Declared, Eval, Empty, Block, If, While, Do, For, Switch}
use Rattle.csub_tree.specs.Statements.{Case, Default, Break, Continue, Goto, Label, Return, NoStmt, OneStmt, NoStmts, MoreStmts}
use Rattle.csub_tree.specs.Units.{Constant, Item, Struct, Enum, Object, Prototype, Function, Source}

-- a span begins no later than it ends, and ends within so many bytes
pub record IsWithin (n : ℕ) (s : Span) : Type 0 where
  pub ordered : s.start ≤ s.end
  pub within : s.end ≤ n

-- each of some trees, and a tree where there is one
abbrev pub WithinEach : {A : Type 0} → (A → Type 0) → List A → Type 0
WithinEach P [] = Unit {0}
WithinEach P (x ∷ xs) = P x × WithinEach P xs

abbrev pub WithinMaybe : {A : Type 0} → (A → Type 0) → Option A → Type 0
WithinMaybe P None = Unit {0}
WithinMaybe P (Some x) = P x

-- names, and types as they are written
abbrev pub WithinName : ℕ → Name → Type 0
WithinName n x = IsWithin n x.span

abbrev pub WithinType : ℕ → TypeName → Type 0
WithinType n types.Void = Unit {0}
WithinType n types.Char = Unit {0}
WithinType n types.Int = Unit {0}
WithinType n types.Unsigned = Unit {0}
WithinType n (types.Struct tag) = WithinName n tag

-- expressions
abbrev mutual
  pub WithinExpr : ℕ → Expr → Type 0
  WithinExpr n (Node k s) = WithinKind n k × IsWithin n s

  pub WithinKind : ℕ → Kind → Type 0
  WithinKind n (Number v u) = Unit {0}
  WithinKind n (Char b) = Unit {0}
  WithinKind n (Text t) = Unit {0}
  WithinKind n (Named x) = WithinName n x
  WithinKind n (Paren e) = WithinExpr n e
  WithinKind n (Unary o e) = WithinExpr n e
  WithinKind n (Cast t e) = WithinType n t × WithinExpr n e
  WithinKind n (Step o e) = WithinExpr n e
  WithinKind n (Binary o a b) = WithinExpr n a × WithinExpr n b
  WithinKind n (And a b) = WithinExpr n a × WithinExpr n b
  WithinKind n (Or a b) = WithinExpr n a × WithinExpr n b
  WithinKind n (Choose c a b) = WithinExpr n c × WithinExpr n a × WithinExpr n b
  WithinKind n (Assign o a b) = WithinExpr n a × WithinExpr n b
  WithinKind n (Call f args) = WithinName n f × WithinExprs n args
  WithinKind n (Index a i) = WithinExpr n a × WithinExpr n i
  WithinKind n (Member a m) = WithinExpr n a × WithinName n m

  pub WithinExprs : ℕ → Exprs → Type 0
  WithinExprs n NoExprs = Unit {0}
  WithinExprs n (MoreExprs e rest) = WithinExpr n e × WithinExprs n rest

-- initialisers
abbrev mutual
  pub WithinInit : ℕ → Init → Type 0
  WithinInit n (One e) = WithinExpr n e
  WithinInit n (Listed xs s) = WithinInits n xs × IsWithin n s

  pub WithinInits : ℕ → Inits → Type 0
  WithinInits n NoInits = Unit {0}
  WithinInits n (MoreInits x rest) = WithinInit n x × WithinInits n rest

-- declarations
abbrev pub WithinVar : ℕ → Declarator → Type 0
WithinVar n d = WithinName n d.name × WithinEach (WithinExpr n) d.dims × WithinMaybe (WithinInit n) d.init

abbrev pub WithinDeclare : ℕ → Declare → Type 0
WithinDeclare n d = WithinType n d.base × WithinEach (WithinVar n) d.vars × IsWithin n d.span

abbrev pub WithinParam : ℕ → Param → Type 0
WithinParam n p = WithinType n p.base × WithinMaybe (WithinName n) p.name × WithinMaybe (WithinExpr n) p.length × IsWithin n p.span

abbrev pub WithinHead : ℕ → Head → Type 0
WithinHead n h = WithinType n h.result × WithinName n h.name × WithinEach (WithinParam n) h.params

-- statements
abbrev mutual
  pub WithinStmt : ℕ → Stmt → Type 0
  WithinStmt n (Line k s) = WithinLine n k × IsWithin n s

  pub WithinLine : ℕ → StmtKind → Type 0
  WithinLine n (Declared d) = WithinDeclare n d
  WithinLine n (Eval e) = WithinExpr n e
  WithinLine n Empty = Unit {0}
  WithinLine n (Block ss) = WithinLines n ss
  WithinLine n (If e a b) = WithinExpr n e × WithinStmt n a × WithinPerhaps n b
  WithinLine n (While e a) = WithinExpr n e × WithinStmt n a
  WithinLine n (Do a e) = WithinStmt n a × WithinExpr n e
  WithinLine n (For b e f a) = WithinPerhaps n b × WithinMaybe (WithinExpr n) e × WithinMaybe (WithinExpr n) f × WithinStmt n a
  WithinLine n (Switch e ss) = WithinExpr n e × WithinLines n ss
  WithinLine n (Case e) = WithinExpr n e
  WithinLine n Default = Unit {0}
  WithinLine n Break = Unit {0}
  WithinLine n Continue = Unit {0}
  WithinLine n (Goto x) = WithinName n x
  WithinLine n (Label x a) = WithinName n x × WithinStmt n a
  WithinLine n (Return e) = WithinMaybe (WithinExpr n) e

  pub WithinPerhaps : ℕ → Perhaps → Type 0
  WithinPerhaps n NoStmt = Unit {0}
  WithinPerhaps n (OneStmt a) = WithinStmt n a

  pub WithinLines : ℕ → Stmts → Type 0
  WithinLines n NoStmts = Unit {0}
  WithinLines n (MoreStmts a rest) = WithinStmt n a × WithinLines n rest

-- units
abbrev pub WithinConstant : ℕ → Constant → Type 0
WithinConstant n c = WithinName n c.name × WithinMaybe (WithinExpr n) c.value

abbrev pub WithinItem : ℕ → Item → Type 0
WithinItem n (Struct tag ds) = WithinName n tag × WithinEach (WithinDeclare n) ds
WithinItem n (Enum tag cs) = WithinMaybe (WithinName n) tag × WithinEach (WithinConstant n) cs
WithinItem n (Object d) = WithinDeclare n d
WithinItem n (Prototype h) = WithinHead n h
WithinItem n (Function h body s) = WithinHead n h × WithinLines n body × IsWithin n s

-- every place in a source's tree lies within so many bytes
abbrev pub SpansWithin : ℕ → Source → Type 0
SpansWithin n u = WithinEach (WithinItem n) u.items
