-- Which tokens spell a statement: one case for each production (C11 6.8).
use Rattle.std.specs.Prelude.{◌≡◌, Bool, true, false, List, [], ◌∷◌, ◌++◌, Option}
use Rattle.csub_text.specs.declared.span.Span.{Span}
use Rattle.csub_lex.specs.declared.token.Key.TheVariants as keys
use Rattle.csub_lex.specs.declared.token.Mark.TheVariants as marks
use Rattle.csub_lex.specs.declared.token.Token.{Token}
use Rattle.csub_tree.specs.declared.name.Name.{Name}
use Rattle.csub_tree.specs.Expressions.{Expr}
use Rattle.csub_tree.specs.Declarations.{Declare}
use Rattle.csub_tree.specs.Statements.{Stmt, StmtKind, Perhaps, Stmts, Line, Declared, Eval, Empty, Block, If, While, Do, For, Switch}
use Rattle.csub_tree.specs.Statements.{Case, Default, Break, Continue, Goto, Label, Return, NoStmt, OneStmt, NoStmts, MoreStmts}
use Rattle.csub_tree.specs.Tokens.{mark, key, id, runs}
use Rattle.csub_tree.specs.Lists.{Optional}
use Rattle.csub_tree.specs.SpellsExpressions.{SpellsExpr, assignment, conditional}
use Rattle.csub_tree.specs.SpellsDeclarations.{SpellsDecl}

-- the statement ends with an `if` that has no `else`, so an `else` behind it belongs to that (6.8.4.1)
abbrev mutual
  pub ends_open : Stmt → Bool
  ends_open (Line k s) = kind_open k

  pub kind_open : StmtKind → Bool
  kind_open (Declared d) = false
  kind_open (Eval e) = false
  kind_open Empty = false
  kind_open (Block ss) = false
  kind_open (If e a NoStmt) = true
  kind_open (If e a (OneStmt b)) = ends_open b
  kind_open (While e a) = ends_open a
  kind_open (Do a e) = false
  kind_open (For b e f a) = ends_open a
  kind_open (Switch e ss) = false
  kind_open (Case e) = false
  kind_open Default = false
  kind_open Break = false
  kind_open Continue = false
  kind_open (Goto n) = false
  kind_open (Label n a) = ends_open a
  kind_open (Return e) = false

-- [assign]
abbrev pub SpellsMaybe : Option Expr → List Token → Type 0
SpellsMaybe = Optional Expr (SpellsExpr assignment)

-- some tokens and ";"
abbrev pub ended : List Token → Span → List Token
ended s a = s ++ mark marks.Semicolon a ∷ []

-- decl | [assign] ";": the first part of a `for` (6.8.5.3)
pub data SpellsFirst : Perhaps → List Token → Type 0 where
  first_declared : {d : Declare} {s : List Token} → SpellsDecl d s → SpellsFirst (OneStmt (Line (Declared d) (runs s))) s
  first_evaluated : {e : Expr} {s : List Token} (a : Span) → SpellsExpr assignment e s
      → SpellsFirst (OneStmt (Line (Eval e) (runs (ended s a)))) (ended s a)
  first_empty : (a : Span) → SpellsFirst NoStmt (mark marks.Semicolon a ∷ [])

-- "case" cond ":" | "default" ":": the labels of a `switch` (6.8.1)
pub data SpellsLabel : StmtKind → List Token → Type 0 where
  case_label : {e : Expr} {s : List Token} (a b : Span) → SpellsExpr conditional e s
      → SpellsLabel (Case e) (key keys.Case a ∷ (s ++ mark marks.Colon b ∷ []))
  default_label : (a b : Span) → SpellsLabel Default (key keys.Default a ∷ mark marks.Colon b ∷ [])

mutual
  -- a statement, placed from its first token to its last
  pub data SpellsStmt : Stmt → List Token → Type 0 where
    placed : {k : StmtKind} {s : List Token} → SpellsKind k s → SpellsStmt (Line k (runs s)) s

  -- what a statement is
  pub data SpellsKind : StmtKind → List Token → Type 0 where
    -- stmt = "{" line* "}" (6.8.2)
    block : {ss : Stmts} {s : List Token} (a b : Span) → SpellsLines ss s
        → SpellsKind (Block ss) (mark marks.OpenBrace a ∷ (s ++ mark marks.CloseBrace b ∷ []))
    -- | ";" | assign ";" (6.8.3)
    empty : (a : Span) → SpellsKind Empty (mark marks.Semicolon a ∷ [])
    evaluated : {e : Expr} {s : List Token} (a : Span) → SpellsExpr assignment e s → SpellsKind (Eval e) (ended s a)
    -- | ID ":" stmt (6.8.1)
    labelled : {x : Stmt} {s : List Token} (n : Name) (a : Span) → SpellsStmt x s
        → SpellsKind (Label n x) (id n ∷ mark marks.Colon a ∷ s)
    -- | "if" "(" assign ")" stmt ["else" stmt], where no `if` before the `else` wants it (6.8.4.1)
    if_alone : {e : Expr} {x : Stmt} {s t : List Token} (a b c : Span) → SpellsExpr assignment e s → SpellsStmt x t
        → SpellsKind (If e x NoStmt) (key keys.If a ∷ mark marks.OpenParen b ∷ (s ++ mark marks.CloseParen c ∷ t))
    if_else : {e : Expr} {x y : Stmt} {s t u : List Token} (a b c d : Span) → SpellsExpr assignment e s → SpellsStmt x t
        → ends_open x ≡ false → SpellsStmt y u
        → SpellsKind (If e x (OneStmt y)) (key keys.If a ∷ mark marks.OpenParen b ∷ (s ++ mark marks.CloseParen c ∷ (t ++ key keys.Else d ∷ u)))
    -- | "while" "(" assign ")" stmt (6.8.5.1)
    while_loop : {e : Expr} {x : Stmt} {s t : List Token} (a b c : Span) → SpellsExpr assignment e s → SpellsStmt x t
        → SpellsKind (While e x) (key keys.While a ∷ mark marks.OpenParen b ∷ (s ++ mark marks.CloseParen c ∷ t))
    -- | "do" stmt "while" "(" assign ")" ";" (6.8.5.2)
    do_loop : {e : Expr} {x : Stmt} {s t : List Token} (a b c d f : Span) → SpellsStmt x s → SpellsExpr assignment e t
        → SpellsKind (Do x e)
        (key keys.Do a ∷ (s ++ key keys.While b ∷ mark marks.OpenParen c ∷ (t ++ mark marks.CloseParen d ∷ mark marks.Semicolon f ∷ [])))
    -- | "for" "(" (decl | [assign] ";") [assign] ";" [assign] ")" stmt (6.8.5.3)
    for_loop : {p : Perhaps} {e f : Option Expr} {x : Stmt} {s t u v : List Token} (a b c d : Span) → SpellsFirst p s → SpellsMaybe e t
        → SpellsMaybe f u → SpellsStmt x v
        → SpellsKind (For p e f x)
        (key keys.For a ∷ mark marks.OpenParen b ∷ (s ++ (t ++ mark marks.Semicolon c ∷ (u ++ mark marks.CloseParen d ∷ v))))
    -- | "switch" "(" assign ")" "{" (line | "case" cond ":" | "default" ":")* "}" (6.8.4.2)
    switched : {e : Expr} {ss : Stmts} {s t : List Token} (a b c d f : Span) → SpellsExpr assignment e s → SpellsSwitchLines ss t
        → SpellsKind (Switch e ss) (key keys.Switch a ∷ mark marks.OpenParen b
        ∷ (s ++ mark marks.CloseParen c ∷ mark marks.OpenBrace d ∷ (t ++ mark marks.CloseBrace f ∷ [])))
    -- | "break" ";" | "continue" ";" | "goto" ID ";" | "return" [assign] ";" (6.8.6)
    broken_off : (a b : Span) → SpellsKind Break (key keys.Break a ∷ mark marks.Semicolon b ∷ [])
    continued : (a b : Span) → SpellsKind Continue (key keys.Continue a ∷ mark marks.Semicolon b ∷ [])
    gone_to : (n : Name) (a b : Span) → SpellsKind (Goto n) (key keys.Goto a ∷ id n ∷ mark marks.Semicolon b ∷ [])
    returned : {e : Option Expr} {s : List Token} (a b : Span) → SpellsMaybe e s
        → SpellsKind (Return e) (key keys.Return a ∷ (s ++ mark marks.Semicolon b ∷ []))

  -- line = decl | stmt
  pub data SpellsLine : Stmt → List Token → Type 0 where
    declaring : {d : Declare} {s : List Token} → SpellsDecl d s → SpellsLine (Line (Declared d) (runs s)) s
    stating : {x : Stmt} {s : List Token} → SpellsStmt x s → SpellsLine x s

  -- line*
  pub data SpellsLines : Stmts → List Token → Type 0 where
    no_lines : SpellsLines NoStmts []
    more_lines : {x : Stmt} {xs : Stmts} {s t : List Token} → SpellsLine x s → SpellsLines xs t → SpellsLines (MoreStmts x xs) (s ++ t)

  -- line | "case" cond ":" | "default" ":"
  pub data SpellsSwitchLine : Stmt → List Token → Type 0 where
    plain_line : {x : Stmt} {s : List Token} → SpellsLine x s → SpellsSwitchLine x s
    label_line : {k : StmtKind} {s : List Token} → SpellsLabel k s → SpellsSwitchLine (Line k (runs s)) s

  -- (line | "case" cond ":" | "default" ":")*
  pub data SpellsSwitchLines : Stmts → List Token → Type 0 where
    no_switch_lines : SpellsSwitchLines NoStmts []
    more_switch_lines : {x : Stmt} {xs : Stmts} {s t : List Token} → SpellsSwitchLine x s → SpellsSwitchLines xs t
        → SpellsSwitchLines (MoreStmts x xs) (s ++ t)
