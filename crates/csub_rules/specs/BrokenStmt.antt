-- Where a statement stands in another, and what it sees there; and the rules on statements, each by itself.
use Rattle.std.specs.Prelude.{◌≡◌, false, Option, Some, None, IsTrue, not}
use Rattle.csub_text.specs.declared.span.Span.{Span}
use Rattle.csub_types.specs.declared.kind.IntKind.{IntKind}
use Rattle.csub_tree.specs.declared.name.Name.{Name}
use Rattle.csub_tree.specs.Expressions.{Expr}
use Rattle.csub_tree.specs.Declarations.{Declare}
use Rattle.csub_tree.specs.Statements.{Stmt, Perhaps, Stmts, Line, Declared, Eval, Block, If, While, Do, For, Switch}
use Rattle.csub_tree.specs.Statements.{Case, Break, Continue, Goto, Label, Return, OneStmt, MoreStmts}
use Rattle.csub_scopes.specs.Scopes.{Scope}
use Rattle.csub_rules.specs.declared.fault.Fault.{Fault}
use Rattle.csub_rules.specs.Uses.{Use, as_part, as_number, as_constant}
use Rattle.csub_rules.specs.BrokenUse.{BrokenUse}
use Rattle.csub_rules.specs.Words.{word_break, word_continue, word_return}
use Rattle.csub_rules.specs.Here.{Here, entering, is_reserved}
use Rattle.csub_rules.specs.Past.{past, past_perhaps}
use Rattle.csub_rules.specs.CaseLabels.{switch_kind}
use Rattle.csub_rules.specs.StmtFaults.{Surroundings, in_loop, in_switch, in_first_part, is_label}
use Rattle.csub_rules.specs.BrokenLocal.{BrokenDeclare}
use Rattle.csub_rules.specs.BrokenLabel.{LabelTwice}

-- t stands in s, one constructor for each place; each statement with what stands round it and what it sees
mutual
  pub data Stands : Surroundings → Here → Stmt → Surroundings → Here → Stmt → Type 0 where
    itself : {a : Surroundings} {h : Here} {t : Stmt} → Stands a h t a h t
    in_block : {a b : Surroundings} {h k : Here} {ss : Stmts} {t : Stmt} (s : Span) → AmongLines a (entering h) ss b k t
        → Stands a h (Line (Block ss) s) b k t
    in_then : {a b : Surroundings} {h k : Here} {x t : Stmt} (e : Expr) (o : Perhaps) (s : Span) → Stands a h x b k t
        → Stands a h (Line (If e x o) s) b k t
    in_else : {a b : Surroundings} {h k : Here} {y t : Stmt} (e : Expr) (x : Stmt) (s : Span) → Stands a (past h x) y b k t
        → Stands a h (Line (If e x (OneStmt y)) s) b k t
    in_while : {a b : Surroundings} {h k : Here} {x t : Stmt} (e : Expr) (s : Span) → Stands (in_loop a) h x b k t
        → Stands a h (Line (While e x) s) b k t
    in_do : {a b : Surroundings} {h k : Here} {x t : Stmt} (e : Expr) (s : Span) → Stands (in_loop a) h x b k t
        → Stands a h (Line (Do x e) s) b k t
    in_first : {a b : Surroundings} {h k : Here} {x t : Stmt} (e f : Option Expr) (y : Stmt) (s : Span)
        → Stands (in_first_part a) (entering h) x b k t → Stands a h (Line (For (OneStmt x) e f y) s) b k t
    in_body : {a b : Surroundings} {h k : Here} {y t : Stmt} (x : Perhaps) (e f : Option Expr) (s : Span)
        → Stands (in_loop a) (past_perhaps (entering h) x) y b k t → Stands a h (Line (For x e f y) s) b k t
    in_lines : {a b : Surroundings} {h k : Here} {ss : Stmts} {t : Stmt} (e : Expr) (s : Span) → AmongLines (in_switch a) (entering h) ss b k t
        → Stands a h (Line (Switch e ss) s) b k t
    in_label : {a b : Surroundings} {h k : Here} {x t : Stmt} (n : Name) (s : Span) → Stands a h x b k t → Stands a h (Line (Label n x) s) b k t

  -- a line sees what the lines before it declare
  pub data AmongLines : Surroundings → Here → Stmts → Surroundings → Here → Stmt → Type 0 where
    this_line : {a b : Surroundings} {h k : Here} {x t : Stmt} (rest : Stmts) → Stands a h x b k t → AmongLines a h (MoreStmts x rest) b k t
    next_line : {a b : Surroundings} {h k : Here} {rest : Stmts} {t : Stmt} (x : Stmt) → AmongLines a (past h x) rest b k t
        → AmongLines a h (MoreStmts x rest) b k t

-- e is an expression of a statement; it stands for this use, and sees this scope
pub data IsPart : Surroundings → Here → Stmt → Scope → Use → Expr → Type 0 where
  of_eval : (a : Surroundings) (h : Here) (e : Expr) (s : Span) → IsPart a h (Line (Eval e) s) h.scope a.statement e
  of_if : (a : Surroundings) (h : Here) (e : Expr) (x : Stmt) (o : Perhaps) (s : Span) → IsPart a h (Line (If e x o) s) h.scope as_number e
  of_while : (a : Surroundings) (h : Here) (e : Expr) (x : Stmt) (s : Span) → IsPart a h (Line (While e x) s) h.scope as_number e
  of_do : (a : Surroundings) (h : Here) (e : Expr) (x : Stmt) (s : Span) → IsPart a h (Line (Do x e) s) h.scope as_number e
  of_condition : (a : Surroundings) (h : Here) (x : Perhaps) (e : Expr) (f : Option Expr) (y : Stmt) (s : Span)
      → IsPart a h (Line (For x (Some e) f y) s) (past_perhaps (entering h) x).scope as_number e
  of_third : (a : Surroundings) (h : Here) (x : Perhaps) (e : Option Expr) (f : Expr) (y : Stmt) (s : Span)
      → IsPart a h (Line (For x e (Some f) y) s) (past_perhaps (entering h) x).scope as_part f
  of_switch : (a : Surroundings) (h : Here) (e : Expr) (ss : Stmts) (s : Span) → IsPart a h (Line (Switch e ss) s) h.scope as_number e
  of_case : (a : Surroundings) (h : Here) (e : Expr) (s : Span) → IsPart a h (Line (Case e) s) h.scope as_constant e
  of_return : (a : Surroundings) (h : Here) (e : Expr) (s : Span) → IsPart a h (Line (Return (Some e)) s) h.scope as_number e

-- a statement breaks a rule by itself, by its expressions or by what it declares
pub data StmtBreaks : Surroundings → Here → Stmt → Fault → Type 0 where
  by_part : (a : Surroundings) (h : Here) (t : Stmt) (scope : Scope) (u : Use) (e : Expr) (f : Fault) → IsPart a h t scope u e
      → BrokenUse scope u e f → StmtBreaks a h t f
  by_declaration : (a : Surroundings) (h : Here) (d : Declare) (s : Span) (f : Fault) → BrokenDeclare h d f → StmtBreaks a h (Line (Declared d) s) f
  -- a label has a name of the library's
  m3_label : (a : Surroundings) (h : Here) (n : Name) (x : Stmt) (s : Span) → IsTrue (is_reserved n.text)
      → StmtBreaks a h (Line (Label n x) s) (record { rule = 3; span = n.span })
  -- a `return` has a value in a function without one
  m15_value : (a : Surroundings) (h : Here) (e : Expr) (s : Span) → a.result ≡ None
      → StmtBreaks a h (Line (Return (Some e)) s) (record { rule = 15; span = word_return s })
  -- a `return` has none in a function with one
  m15_none : (a : Surroundings) (h : Here) (k : IntKind) (s : Span) → a.result ≡ Some k
      → StmtBreaks a h (Line (Return None) s) (record { rule = 15; span = word_return s })
  -- a `break` stands outside a loop or `switch`
  m16_break : (a : Surroundings) (h : Here) (s : Span) → a.can_break ≡ false
      → StmtBreaks a h (Line Break s) (record { rule = 16; span = word_break s })
  -- a `continue` stands outside a loop
  m16_continue : (a : Surroundings) (h : Here) (s : Span) → a.can_continue ≡ false
      → StmtBreaks a h (Line Continue s) (record { rule = 16; span = word_continue s })
  -- a `goto` names no label of its function
  m17 : (a : Surroundings) (h : Here) (n : Name) (s : Span) → IsTrue (not (is_label a.labels n.text))
      → StmtBreaks a h (Line (Goto n) s) (record { rule = 17; span = n.span })
  -- a case value or `default` stands twice in a `switch`
  m18 : (a : Surroundings) (h : Here) (e : Expr) (ss : Stmts) (s at : Span) → LabelTwice (switch_kind h.scope e) (entering h) ss at
      → StmtBreaks a h (Line (Switch e ss) s) (record { rule = 18; span = at })

-- a rule is broken at a place in a statement
pub record BrokenStmt (a : Surroundings) (h : Here) (t : Stmt) (f : Fault) : Type 0 where
  pub around : Surroundings
  pub here : Here
  pub node : Stmt
  pub stands : Stands a h t around here node
  pub breaks : StmtBreaks around here node f

-- and in one of some lines
pub record BrokenLines (a : Surroundings) (h : Here) (ss : Stmts) (f : Fault) : Type 0 where
  pub around : Surroundings
  pub here : Here
  pub node : Stmt
  pub stands : AmongLines a h ss around here node
  pub breaks : StmtBreaks around here node f
