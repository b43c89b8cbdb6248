-- The depth of a tree: the number of units, items, statements, initialisers and expressions on its longest path.
use Rattle.std.specs.Prelude.{ℕ, suc, max, List, [], ◌∷◌, Option, Some, None, map}
use Rattle.csub_tree.specs.Expressions.{Expr, Kind, Exprs, Node, Number, Char, Text, Named, Paren, Unary, Cast, Step, Binary, And, Or}
use Rattle.csub_tree.specs.Expressions.{Choose, Assign, Call, Index, Member, NoExprs, MoreExprs}
use Rattle.csub_tree.specs.Declarations.{Init, Inits, One, Listed, NoInits, MoreInits, Declarator, Declare, Param, Head}
use Rattle.csub_tree.specs.Statements.{Stmt, StmtKind, Perhaps, Stmts, Line, Declared, Eval, Empty, Block, If, While, Do, For, Switch}
use Rattle.csub_tree.specs.Statements.{Case, Default, Break, Continue, Goto, Label, Return, NoStmt, OneStmt, NoStmts, MoreStmts}
use Rattle.csub_tree.specs.Units.{Constant, Item, Struct, Enum, Object, Prototype, Function, Source}

-- the most of some depths, 0 for none
abbrev pub most : List ℕ → ℕ
most [] = 0
most (n ∷ ns) = max n (most ns)

-- the depth of what may be missing, 0 where it is
abbrev pub if_there : {A : Type 0} → (A → ℕ) → Option A → ℕ
if_there f None = 0
if_there f (Some x) = f x

abbrev mutual
  pub expr_depth : Expr → ℕ
  expr_depth (Node k s) = suc (kind_depth k)

  pub kind_depth : Kind → ℕ
  kind_depth (Number n u) = 0
  kind_depth (Char b) = 0
  kind_depth (Text t) = 0
  kind_depth (Named n) = 0
  kind_depth (Paren e) = expr_depth e
  kind_depth (Unary o e) = expr_depth e
  kind_depth (Cast t e) = expr_depth e
  kind_depth (Step o e) = expr_depth e
  kind_depth (Binary o a b) = max (expr_depth a) (expr_depth b)
  kind_depth (And a b) = max (expr_depth a) (expr_depth b)
  kind_depth (Or a b) = max (expr_depth a) (expr_depth b)
  kind_depth (Choose a b c) = max (expr_depth a) (max (expr_depth b) (expr_depth c))
  kind_depth (Assign o a b) = max (expr_depth a) (expr_depth b)
  kind_depth (Call n es) = exprs_depth es
  kind_depth (Index a b) = max (expr_depth a) (expr_depth b)
  kind_depth (Member a n) = expr_depth a

  pub exprs_depth : Exprs → ℕ
  exprs_depth NoExprs = 0
  exprs_depth (MoreExprs e es) = max (expr_depth e) (exprs_depth es)

abbrev mutual
  pub init_depth : Init → ℕ
  init_depth (One e) = suc (expr_depth e)
  init_depth (Listed is s) = suc (inits_depth is)

  pub inits_depth : Inits → ℕ
  inits_depth NoInits = 0
  inits_depth (MoreInits i is) = max (init_depth i) (inits_depth is)

-- a declaration is no node of its own
abbrev pub declarator_depth : Declarator → ℕ
declarator_depth d = max (most (map expr_depth d.dims)) (if_there init_depth d.init)

abbrev pub declare_depth : Declare → ℕ
declare_depth d = most (map declarator_depth d.vars)

abbrev pub param_depth : Param → ℕ
param_depth p = if_there expr_depth p.length

abbrev pub head_depth : Head → ℕ
head_depth h = most (map param_depth h.params)

abbrev mutual
  pub stmt_depth : Stmt → ℕ
  stmt_depth (Line k s) = suc (line_depth k)

  pub line_depth : StmtKind → ℕ
  line_depth (Declared d) = declare_depth d
  line_depth (Eval e) = expr_depth e
  line_depth Empty = 0
  line_depth (Block ss) = stmts_depth ss
  line_depth (If e a b) = max (expr_depth e) (max (stmt_depth a) (perhaps_depth b))
  line_depth (While e a) = max (expr_depth e) (stmt_depth a)
  line_depth (Do a e) = max (stmt_depth a) (expr_depth e)
  line_depth (For b e f a) = max (perhaps_depth b) (max (if_there expr_depth e) (max (if_there expr_depth f) (stmt_depth a)))
  line_depth (Switch e ss) = max (expr_depth e) (stmts_depth ss)
  line_depth (Case e) = expr_depth e
  line_depth Default = 0
  line_depth Break = 0
  line_depth Continue = 0
  line_depth (Goto n) = 0
  line_depth (Label n a) = stmt_depth a
  line_depth (Return e) = if_there expr_depth e

  pub perhaps_depth : Perhaps → ℕ
  perhaps_depth NoStmt = 0
  perhaps_depth (OneStmt s) = stmt_depth s

  pub stmts_depth : Stmts → ℕ
  stmts_depth NoStmts = 0
  stmts_depth (MoreStmts s ss) = max (stmt_depth s) (stmts_depth ss)

abbrev pub constant_depth : Constant → ℕ
constant_depth c = if_there expr_depth c.value

abbrev pub item_depth : Item → ℕ
item_depth (Struct n ds) = suc (most (map declare_depth ds))
item_depth (Enum n cs) = suc (most (map constant_depth cs))
item_depth (Object d) = suc (declare_depth d)
item_depth (Prototype h) = suc (head_depth h)
item_depth (Function h ss s) = suc (max (head_depth h) (stmts_depth ss))

abbrev pub unit_depth : Source → ℕ
unit_depth u = suc (most (map item_depth u.items))
