-- Trees without their places: each place is replaced by one and the same. Two trees have the same shape where they are
-- equal then.
use Rattle.std.specs.Prelude.{◌≡◌, map}
use Rattle.std.specs.Option.{option_map}
use Rattle.csub_text.specs.declared.span.Span.{Span}
use Rattle.csub_tree.specs.declared.name.Name.{Name}
use Rattle.csub_tree.specs.declared.name.TypeName.{TypeName}
use Rattle.csub_tree.specs.declared.name.TypeName.TheVariants as types
use Rattle.csub_tree.specs.Expressions.{Expr, Kind, Exprs, Node, Number, Char, Text, Named, Paren, Unary, Cast, Step, Binary, And, Or}
use Rattle.csub_tree.specs.Expressions.{Choose, Assign, Call, Index, Member, NoExprs, MoreExprs}
use Rattle.csub_tree.specs.Declarations.{Init, Inits, One, Listed, NoInits, MoreInits, Declarator, Declare, Param, Head}
use Rattle.csub_tree.specs.Statements.{Stmt, StmtKind, Perhaps, Stmts, Line, Declared, Eval, Empty, Block, If, While, Do, For, Switch}
use Rattle.csub_tree.specs.Statements.{Case, Default, Break, Continue, Goto, Label, Return, NoStmt, OneStmt, NoStmts, MoreStmts}
use Rattle.csub_tree.specs.Units.{Constant, Item, Struct, Enum, Object, Prototype, Function, Source}

abbrev pub nowhere : Span
nowhere = record { start = 0; end = 0 }

abbrev pub name_shape : Name → Name
name_shape n = record { text = n.text; span = nowhere }

abbrev pub type_shape : TypeName → TypeName
type_shape types.Void = types.Void
type_shape types.Char = types.Char
type_shape types.Int = types.Int
type_shape types.Unsigned = types.Unsigned
type_shape (types.Struct n) = types.Struct (name_shape n)

abbrev mutual
  pub expr_shape : Expr → Expr
  expr_shape (Node k s) = Node (kind_shape k) nowhere

  pub kind_shape : Kind → Kind
  kind_shape (Number n u) = Number n u
  kind_shape (Char b) = Char b
  kind_shape (Text t) = Text t
  kind_shape (Named n) = Named (name_shape n)
  kind_shape (Paren e) = Paren (expr_shape e)
  kind_shape (Unary o e) = Unary o (expr_shape e)
  kind_shape (Cast t e) = Cast (type_shape t) (expr_shape e)
  kind_shape (Step o e) = Step o (expr_shape e)
  kind_shape (Binary o a b) = Binary o (expr_shape a) (expr_shape b)
  kind_shape (And a b) = And (expr_shape a) (expr_shape b)
  kind_shape (Or a b) = Or (expr_shape a) (expr_shape b)
  kind_shape (Choose a b c) = Choose (expr_shape a) (expr_shape b) (expr_shape c)
  kind_shape (Assign o a b) = Assign o (expr_shape a) (expr_shape b)
  kind_shape (Call n es) = Call (name_shape n) (exprs_shape es)
  kind_shape (Index a b) = Index (expr_shape a) (expr_shape b)
  kind_shape (Member a n) = Member (expr_shape a) (name_shape n)

  pub exprs_shape : Exprs → Exprs
  exprs_shape NoExprs = NoExprs
  exprs_shape (MoreExprs e es) = MoreExprs (expr_shape e) (exprs_shape es)

abbrev mutual
  pub init_shape : Init → Init
  init_shape (One e) = One (expr_shape e)
  init_shape (Listed is s) = Listed (inits_shape is) nowhere

  pub inits_shape : Inits → Inits
  inits_shape NoInits = NoInits
  inits_shape (MoreInits i is) = MoreInits (init_shape i) (inits_shape is)

abbrev pub declarator_shape : Declarator → Declarator
declarator_shape d = record { name = name_shape d.name; dims = map expr_shape d.dims; init = option_map init_shape d.init }

abbrev pub declare_shape : Declare → Declare
declare_shape d = record { base = type_shape d.base; vars = map declarator_shape d.vars; span = nowhere }

abbrev pub param_shape : Param → Param
param_shape p =
    record { base = type_shape p.base; name = option_map name_shape p.name; array = p.array; length = option_map expr_shape p.length; span = nowhere }

abbrev pub head_shape : Head → Head
head_shape h = record { result = type_shape h.result; name = name_shape h.name; params = map param_shape h.params }

abbrev mutual
  pub stmt_shape : Stmt → Stmt
  stmt_shape (Line k s) = Line (line_shape k) nowhere

  pub line_shape : StmtKind → StmtKind
  line_shape (Declared d) = Declared (declare_shape d)
  line_shape (Eval e) = Eval (expr_shape e)
  line_shape Empty = Empty
  line_shape (Block ss) = Block (stmts_shape ss)
  line_shape (If e a b) = If (expr_shape e) (stmt_shape a) (perhaps_shape b)
  line_shape (While e a) = While (expr_shape e) (stmt_shape a)
  line_shape (Do a e) = Do (stmt_shape a) (expr_shape e)
  line_shape (For b e f a) = For (perhaps_shape b) (option_map expr_shape e) (option_map expr_shape f) (stmt_shape a)
  line_shape (Switch e ss) = Switch (expr_shape e) (stmts_shape ss)
  line_shape (Case e) = Case (expr_shape e)
  line_shape Default = Default
  line_shape Break = Break
  line_shape Continue = Continue
  line_shape (Goto n) = Goto (name_shape n)
  line_shape (Label n a) = Label (name_shape n) (stmt_shape a)
  line_shape (Return e) = Return (option_map expr_shape e)

  pub perhaps_shape : Perhaps → Perhaps
  perhaps_shape NoStmt = NoStmt
  perhaps_shape (OneStmt s) = OneStmt (stmt_shape s)

  pub stmts_shape : Stmts → Stmts
  stmts_shape NoStmts = NoStmts
  stmts_shape (MoreStmts s ss) = MoreStmts (stmt_shape s) (stmts_shape ss)

abbrev pub constant_shape : Constant → Constant
constant_shape c = record { name = name_shape c.name; value = option_map expr_shape c.value }

abbrev pub item_shape : Item → Item
item_shape (Struct n ds) = Struct (name_shape n) (map declare_shape ds)
item_shape (Enum n cs) = Enum (option_map name_shape n) (map constant_shape cs)
item_shape (Object d) = Object (declare_shape d)
item_shape (Prototype h) = Prototype (head_shape h)
item_shape (Function h ss s) = Function (head_shape h) (stmts_shape ss) nowhere

abbrev pub unit_shape : Source → Source
unit_shape u = record { items = map item_shape u.items }

abbrev pub SameShape : Source → Source → Type 0
SameShape u v = unit_shape u ≡ unit_shape v
