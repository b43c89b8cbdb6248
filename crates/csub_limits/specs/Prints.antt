-- How many values each `printf` of a source writes by its format, in the order of the text.
use Rattle.std.specs.Prelude.{ℕ, ◌+◌, List, [], ◌∷◌, ◌++◌, Option, Some, None, bytes_eq, codes, if◌then◌else◌}
use Rattle.csub_tree.specs.Expressions.{Expr, Kind, Exprs, Node, Number, Char, Text, Named, Paren, Unary, Cast, Step, Binary, And, Or}
use Rattle.csub_tree.specs.Expressions.{Choose, Assign, Call, Index, Member, NoExprs, MoreExprs}
use Rattle.csub_tree.specs.Declarations.{Init, Inits, One, Listed, NoInits, MoreInits, Declarator}
use Rattle.csub_tree.specs.Statements.{Stmt, StmtKind, Perhaps, Stmts, Line, Declared, Eval, Empty, Block, If, While, Do, For, Switch}
use Rattle.csub_tree.specs.Statements.{Case, Default, Break, Continue, Goto, Label, Return, NoStmt, OneStmt, NoStmts, MoreStmts}
use Rattle.csub_tree.specs.Units.{Item, Struct, Enum, Object, Prototype, Function}
use Rattle.csub_objects.specs.Types.{Name}

abbrev pub expr_count : Exprs → ℕ
expr_count NoExprs = 0
expr_count (MoreExprs e rest) = 1 + expr_count rest

-- the arguments behind the format, which is the first (C11 7.21.6.3p2)
abbrev pub values_of : Exprs → List ℕ
values_of NoExprs = []
values_of (MoreExprs format values) = expr_count values ∷ []

abbrev pub printed : Name → Exprs → List ℕ
printed f args = if bytes_eq f (codes "printf") then values_of args else []

abbrev mutual
  pub prints : Expr → List ℕ
  prints (Node k s) = prints_in k

  pub prints_in : Kind → List ℕ
  prints_in (Number n u) = []
  prints_in (Char b) = []
  prints_in (Text t) = []
  prints_in (Named x) = []
  prints_in (Paren e) = prints e
  prints_in (Unary o e) = prints e
  prints_in (Cast t e) = prints e
  prints_in (Step o e) = prints e
  prints_in (Binary o a b) = prints a ++ prints b
  prints_in (And a b) = prints a ++ prints b
  prints_in (Or a b) = prints a ++ prints b
  prints_in (Choose c a b) = prints c ++ (prints a ++ prints b)
  prints_in (Assign o a b) = prints a ++ prints b
  prints_in (Call f args) = printed f.text args ++ prints_all args
  prints_in (Index a i) = prints a ++ prints i
  prints_in (Member a m) = prints a

  pub prints_all : Exprs → List ℕ
  prints_all NoExprs = []
  prints_all (MoreExprs e rest) = prints e ++ prints_all rest

abbrev pub prints_perhaps : Option Expr → List ℕ
prints_perhaps None = []
prints_perhaps (Some e) = prints e

abbrev mutual
  pub init_prints : Init → List ℕ
  init_prints (One e) = prints e
  init_prints (Listed xs s) = inits_prints xs

  pub inits_prints : Inits → List ℕ
  inits_prints NoInits = []
  inits_prints (MoreInits x rest) = init_prints x ++ inits_prints rest

-- what stands in brackets is a constant, and calls nothing
abbrev pub var_prints : Option Init → List ℕ
var_prints None = []
var_prints (Some x) = init_prints x

abbrev pub vars_prints : List Declarator → List ℕ
vars_prints [] = []
vars_prints (d ∷ ds) = var_prints d.init ++ vars_prints ds

abbrev mutual
  pub stmt_prints : Stmt → List ℕ
  stmt_prints (Line k s) = line_prints k

  pub line_prints : StmtKind → List ℕ
  line_prints (Declared d) = vars_prints d.vars
  line_prints (Eval e) = prints e
  line_prints Empty = []
  line_prints (Block ss) = lines_prints ss
  line_prints (If e a b) = prints e ++ (stmt_prints a ++ perhaps_prints b)
  line_prints (While e a) = prints e ++ stmt_prints a
  line_prints (Do a e) = stmt_prints a ++ prints e
  line_prints (For b e f a) = perhaps_prints b ++ (prints_perhaps e ++ (prints_perhaps f ++ stmt_prints a))
  line_prints (Switch e ss) = prints e ++ lines_prints ss
  line_prints (Case e) = prints e
  line_prints Default = []
  line_prints Break = []
  line_prints Continue = []
  line_prints (Goto x) = []
  line_prints (Label x a) = stmt_prints a
  line_prints (Return e) = prints_perhaps e

  pub perhaps_prints : Perhaps → List ℕ
  perhaps_prints NoStmt = []
  perhaps_prints (OneStmt a) = stmt_prints a

  pub lines_prints : Stmts → List ℕ
  lines_prints NoStmts = []
  lines_prints (MoreStmts a rest) = stmt_prints a ++ lines_prints rest

-- nothing is called but by the functions that are defined
abbrev pub item_prints : Item → List ℕ
item_prints (Struct tag ds) = []
item_prints (Enum tag cs) = []
item_prints (Object d) = []
item_prints (Prototype h) = []
item_prints (Function h body s) = lines_prints body

abbrev pub items_prints : List Item → List ℕ
items_prints [] = []
items_prints (i ∷ rest) = item_prints i ++ items_prints rest
