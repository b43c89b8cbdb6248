-- Sources as a text spells them: what the grammar and the tokens say, and no rule repeats.
use Rattle.std.specs.Prelude.{◌≤◌, List, [], ◌∷◌, Option, Some, None, Bool, true, false, IsTrue}
use Rattle.csub_tree.specs.Expressions.{Expr, Kind, Exprs, Node, Number, Char, Text, Named, Paren, Unary, Cast, Step, Binary, And, Or}
use Rattle.csub_tree.specs.Expressions.{Choose, Assign, Call, Index, Member, NoExprs, MoreExprs}
use Rattle.csub_tree.specs.Declarations.{Init, Inits, One, Listed, NoInits, MoreInits, Declarator}
use Rattle.csub_tree.specs.Statements.{Stmt, StmtKind, Perhaps, Stmts, Line, Declared, Eval, Empty, Block, If, While, Do, For, Switch}
use Rattle.csub_tree.specs.Statements.{Case, Default, Break, Continue, Goto, Label, Return, NoStmt, OneStmt, NoStmts, MoreStmts}
use Rattle.csub_tree.specs.Units.{Item, Struct, Enum, Object, Prototype, Function, Source}

-- each number has at most 32 bits (C11 6.4.4.1p5), and each character is a byte
abbrev mutual
  pub WrittenExpr : Expr → Type 0
  WrittenExpr (Node k s) = WrittenKind k

  pub WrittenKind : Kind → Type 0
  WrittenKind (Number n u) = n ≤ 4294967295
  WrittenKind (Char b) = b ≤ 255
  WrittenKind (Text t) = Unit {0}
  WrittenKind (Named x) = Unit {0}
  WrittenKind (Paren e) = WrittenExpr e
  WrittenKind (Unary o e) = WrittenExpr e
  WrittenKind (Cast t e) = WrittenExpr e
  WrittenKind (Step o e) = WrittenExpr e
  WrittenKind (Binary o a b) = WrittenExpr a × WrittenExpr b
  WrittenKind (And a b) = WrittenExpr a × WrittenExpr b
  WrittenKind (Or a b) = WrittenExpr a × WrittenExpr b
  WrittenKind (Choose c a b) = WrittenExpr c × WrittenExpr a × WrittenExpr b
  WrittenKind (Assign o a b) = WrittenExpr a × WrittenExpr b
  WrittenKind (Call f args) = WrittenExprs args
  WrittenKind (Index a i) = WrittenExpr a × WrittenExpr i
  WrittenKind (Member a m) = WrittenExpr a

  pub WrittenExprs : Exprs → Type 0
  WrittenExprs NoExprs = Unit {0}
  WrittenExprs (MoreExprs e rest) = WrittenExpr e × WrittenExprs rest

abbrev pub WrittenMaybe : Option Expr → Type 0
WrittenMaybe None = Unit {0}
WrittenMaybe (Some e) = WrittenExpr e

-- a list in braces has an initialiser (C11 6.7.9)
abbrev pub has_entry : Inits → Bool
has_entry NoInits = false
has_entry (MoreInits x rest) = true

abbrev mutual
  pub WrittenInit : Init → Type 0
  WrittenInit (One e) = WrittenExpr e
  WrittenInit (Listed xs s) = IsTrue (has_entry xs) × WrittenInits xs

  pub WrittenInits : Inits → Type 0
  WrittenInits NoInits = Unit {0}
  WrittenInits (MoreInits x rest) = WrittenInit x × WrittenInits rest

abbrev pub WrittenValue : Option Init → Type 0
WrittenValue None = Unit {0}
WrittenValue (Some x) = WrittenInit x

-- lengths in brackets and values of a `case` are constants, and converted
abbrev pub WrittenVars : List Declarator → Type 0
WrittenVars [] = Unit {0}
WrittenVars (d ∷ ds) = WrittenValue d.init × WrittenVars ds

-- `case` and `default` stand among the lines of a `switch` alone, which a statement may or may not be, and a `for` begins
-- with a declaration, an expression or nothing (C11 6.8.1p2 and 6.8.5)
abbrev mutual
  pub WrittenStmt : Bool → Stmt → Type 0
  WrittenStmt among (Line k s) = WrittenLine among k

  pub WrittenLine : Bool → StmtKind → Type 0
  WrittenLine among (Declared d) = WrittenVars d.vars
  WrittenLine among (Eval e) = WrittenExpr e
  WrittenLine among Empty = Unit {0}
  WrittenLine among (Block ss) = WrittenLines false ss
  WrittenLine among (If e a b) = WrittenExpr e × WrittenStmt false a × WrittenElse b
  WrittenLine among (While e a) = WrittenExpr e × WrittenStmt false a
  WrittenLine among (Do a e) = WrittenStmt false a × WrittenExpr e
  WrittenLine among (For b e f a) = WrittenFirst b × WrittenMaybe e × WrittenMaybe f × WrittenStmt false a
  WrittenLine among (Switch e ss) = WrittenExpr e × WrittenLines true ss
  WrittenLine among (Case e) = IsTrue among
  WrittenLine among Default = IsTrue among
  WrittenLine among Break = Unit {0}
  WrittenLine among Continue = Unit {0}
  WrittenLine among (Goto x) = Unit {0}
  WrittenLine among (Label x a) = WrittenStmt false a
  WrittenLine among (Return e) = WrittenMaybe e

  pub WrittenElse : Perhaps → Type 0
  WrittenElse NoStmt = Unit {0}
  WrittenElse (OneStmt a) = WrittenStmt false a

  pub WrittenFirst : Perhaps → Type 0
  WrittenFirst NoStmt = Unit {0}
  WrittenFirst (OneStmt (Line (Declared d) s)) = WrittenVars d.vars
  WrittenFirst (OneStmt (Line (Eval e) s)) = WrittenExpr e
  WrittenFirst (OneStmt (Line k s)) = ⊥

  pub WrittenLines : Bool → Stmts → Type 0
  WrittenLines among NoStmts = Unit {0}
  WrittenLines among (MoreStmts a rest) = WrittenStmt among a × WrittenLines among rest

abbrev pub WrittenItem : Item → Type 0
WrittenItem (Struct tag ds) = Unit {0}
WrittenItem (Enum tag cs) = Unit {0}
WrittenItem (Object d) = Unit {0}
WrittenItem (Prototype h) = Unit {0}
WrittenItem (Function h body s) = WrittenLines false body

abbrev pub WrittenItems : List Item → Type 0
WrittenItems [] = Unit {0}
WrittenItems (i ∷ rest) = WrittenItem i × WrittenItems rest

abbrev pub IsWritten : Source → Type 0
IsWritten u = WrittenItems u.items
