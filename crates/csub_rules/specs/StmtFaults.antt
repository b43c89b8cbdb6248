-- The rules on statements (C11 6.8), and the earliest place where a statement breaks one.
use Rattle.std.specs.Prelude.{List, [], Bool, true, Option, Some, None, is_some, not, bytes_eq}
use Rattle.std.specs.List.{list_any}
use Rattle.csub_text.specs.declared.span.Span.{Span}
use Rattle.csub_types.specs.declared.kind.IntKind.{IntKind}
use Rattle.csub_tree.specs.Expressions.{Expr}
use Rattle.csub_tree.specs.Statements.{Stmt, StmtKind, Perhaps, Stmts, Line, Declared, Eval, Empty, Block, If, While, Do, For, Switch}
use Rattle.csub_tree.specs.Statements.{Case, Default, Break, Continue, Goto, Label, Return, NoStmt, OneStmt, NoStmts, MoreStmts}
use Rattle.csub_objects.specs.Types.{Name}
use Rattle.csub_scopes.specs.Scopes.{Scope}
use Rattle.csub_rules.specs.declared.fault.Fault.{Fault}
use Rattle.csub_rules.specs.Faults.{fault_if, ◌or_earlier◌}
use Rattle.csub_rules.specs.Uses.{Use, as_part, as_number, as_constant, use_fault}
use Rattle.csub_rules.specs.Words.{word_break, word_continue, word_return}
use Rattle.csub_rules.specs.Here.{Here, entering, is_reserved}
use Rattle.csub_rules.specs.Locals.{declare_fault}
use Rattle.csub_rules.specs.Past.{past, past_perhaps}
use Rattle.csub_rules.specs.CaseLabels.{switch_kind, labels_fault}

-- What stands round a statement: the kind of its function's result, none for `void`, and the labels of the function; what an
-- expression statement stands as, a whole statement or the first part of a `for`; whether it stands in a loop or a `switch`,
-- and in a loop.
pub record Surroundings : Type 0 where
  pub result : Option IntKind
  pub labels : List Name
  pub statement : Use
  pub can_break : Bool
  pub can_continue : Bool

abbrev pub in_loop : Surroundings → Surroundings
in_loop around = record around { can_break = true; can_continue = true }

abbrev pub in_switch : Surroundings → Surroundings
in_switch around = record around { can_break = true }

abbrev pub in_first_part : Surroundings → Surroundings
in_first_part around = record around { statement = as_part }

-- M17: a label of the function has the name (C11 6.8.6.1p1)
abbrev pub is_label : List Name → Name → Bool
is_label labels x = list_any (λ l. bytes_eq l x) labels

abbrev pub part_fault : Scope → Use → Option Expr → Option Fault
part_fault scope u None = None
part_fault scope u (Some e) = use_fault scope u e

-- M15: a `return` without a value in a function that has one, or with a value in another (C11 6.8.6.4p1)
abbrev pub return_fault : Surroundings → Scope → Option Expr → Span → Option Fault
return_fault around scope None s = fault_if (is_some around.result) 15 (word_return s)
return_fault around scope (Some e) s = fault_if (not (is_some around.result)) 15 (word_return s) or_earlier use_fault scope as_number e

-- the earliest fault of a statement
abbrev mutual
  pub stmt_fault : Surroundings → Here → Stmt → Option Fault
  stmt_fault around here (Line k s) = line_fault around here k s

  pub line_fault : Surroundings → Here → StmtKind → Span → Option Fault
  line_fault around here (Declared d) s = declare_fault here d
  line_fault around here (Eval e) s = use_fault here.scope around.statement e
  line_fault around here Empty s = None
  line_fault around here (Block ss) s = lines_fault around (entering here) ss
  line_fault around here (If e a b) s =
      use_fault here.scope as_number e or_earlier stmt_fault around here a or_earlier perhaps_fault around (past here a) b
  line_fault around here (While e a) s = use_fault here.scope as_number e or_earlier stmt_fault (in_loop around) here a
  line_fault around here (Do a e) s = use_fault here.scope as_number e or_earlier stmt_fault (in_loop around) here a
  line_fault around here (For b e f a) s =
      perhaps_fault (in_first_part around) (entering here) b
      or_earlier part_fault (past_perhaps (entering here) b).scope as_number e
      or_earlier part_fault (past_perhaps (entering here) b).scope as_part f
      or_earlier stmt_fault (in_loop around) (past_perhaps (entering here) b) a
  line_fault around here (Switch e ss) s =
      use_fault here.scope as_number e or_earlier lines_fault (in_switch around) (entering here) ss
      or_earlier labels_fault (switch_kind here.scope e) (entering here) [] ss
  line_fault around here (Case e) s = use_fault here.scope as_constant e
  line_fault around here Default s = None
  -- M16: a `break` outside a loop or `switch`, or a `continue` outside a loop (C11 6.8.6.3p1 and 6.8.6.2p1)
  line_fault around here Break s = fault_if (not around.can_break) 16 (word_break s)
  line_fault around here Continue s = fault_if (not around.can_continue) 16 (word_continue s)
  line_fault around here (Goto x) s = fault_if (not (is_label around.labels x.text)) 17 x.span
  line_fault around here (Label x a) s = fault_if (is_reserved x.text) 3 x.span or_earlier stmt_fault around here a
  line_fault around here (Return e) s = return_fault around here.scope e s

  pub perhaps_fault : Surroundings → Here → Perhaps → Option Fault
  perhaps_fault around here NoStmt = None
  perhaps_fault around here (OneStmt a) = stmt_fault around here a

  pub lines_fault : Surroundings → Here → Stmts → Option Fault
  lines_fault around here NoStmts = None
  lines_fault around here (MoreStmts a rest) = stmt_fault around here a or_earlier lines_fault around (past here a) rest
