-- Statements that break no rule can be resolved, whatever stands round them. Crates above cite these lemmas.
use Rattle.std.proofs.Common.{refl, Option, Some, None, true, false, IsTrue}
use Rattle.csub_tree.specs.Expressions.{Expr, Node, Number, Char, Text, Named, Paren, Unary, Cast, Step, Binary, And, Or}
use Rattle.csub_tree.specs.Expressions.{Choose, Assign, Call as Called, Index, Member}
use Rattle.csub_tree.specs.Statements.{Stmt, Perhaps, Stmts, Line, Declared, Eval, Empty, Block, If, While, Do, For, Switch}
use Rattle.csub_tree.specs.Statements.{Case, Default, Break, Continue, Goto, Label, Return, NoStmt, OneStmt, NoStmts, MoreStmts}
use Rattle.csub_scopes.specs.Scopes.{Scope}
use Rattle.csub_rules.specs.Sorts.{Sort, a_place, a_value, a_void, no_sort, is_number}
use Rattle.csub_rules.specs.ExprSorts.{sort_of}
use Rattle.csub_rules.specs.Callees.{Callee, no_function, user_function, getchar_function, putchar_function, printf_function, exit_function, callee_of}
use Rattle.csub_rules.specs.Fine.{Fine, FineCall}
use Rattle.csub_rules.specs.Uses.{Use, as_statement, as_part, as_number, as_constant, has_effect}
use Rattle.csub_rules.specs.BrokenUse.{FineUse}
use Rattle.csub_rules.specs.FineStmt.{FineStmt, FinePerhaps, FineLines, FineReturn, FinePart}
use Rattle.csub_rules.specs.Here.{Here, entering}
use Rattle.csub_rules.specs.Past.{past, past_perhaps}
use Rattle.csub_rules.specs.StmtFaults.{Surroundings, in_loop, in_switch, in_first_part}
use Rattle.csub_statements.specs.Resolvable.{Resolvable, ResolvablePerhaps, ResolvableLines}

whole_call : (c : Callee) (fit print : Type 0) → FineCall false c fit print → FineCall true c fit print
whole_call no_function fit print h = absurd h
whole_call (user_function params result) fit print h = h
whole_call getchar_function fit print h = h
whole_call putchar_function fit print h = h
whole_call printf_function fit print h = h
whole_call exit_function fit print h = let whole : IsTrue false = h.0 in absurd (cc)

-- what is fine as an operand is fine as a whole statement
whole : (scope : Scope) (e : Expr) → Fine scope false e → Fine scope true e
whole scope (Node (Number n u) s) h = h
whole scope (Node (Char b) s) h = h
whole scope (Node (Text t) s) h = h
whole scope (Node (Named x) s) h = h
whole scope (Node (Paren a) s) h = whole scope a h
whole scope (Node (Unary o a) s) h = h
whole scope (Node (Cast t a) s) h = h
whole scope (Node (Step o a) s) h = h
whole scope (Node (Binary o a b) s) h = h
whole scope (Node (And a b) s) h = h
whole scope (Node (Or a b) s) h = h
whole scope (Node (Choose c a b) s) h = h
whole scope (Node (Assign o a b) s) h = h
whole scope (Node (Called f args) s) h = whole_call (callee_of scope f.text) _ _ h
whole scope (Node (Index a i) s) h = h
whole scope (Node (Member a m) s) h = h

number_effect : (s : Sort) → IsTrue (is_number s) → IsTrue (has_effect s)
number_effect (a_place t) h = h
number_effect (a_value k) h = refl
number_effect a_void h = refl
number_effect no_sort h = refl

-- so is what serves for any use
as_whole : (scope : Scope) (u : Use) (e : Expr) → FineUse scope u e → FineUse scope as_statement e
as_whole scope as_statement e h = h
as_whole scope as_part e h = (whole scope e h.0, h.1, refl)
as_whole scope as_number e h = (whole scope e h.0, number_effect (sort_of scope e) h.1, refl)
as_whole scope as_constant e h = (whole scope e h.0, number_effect (sort_of scope e) h.1, refl)

returned : (a : Surroundings) (scope : Scope) (e : Option Expr) → FineReturn a scope e → FinePart scope as_number e
returned a scope None h = tt
returned a scope (Some e) h = h.1

mutual
  pub resolvable : (a : Surroundings) (h : Here) (t : Stmt) → FineStmt a h t → Resolvable h t
  resolvable a h (Line (Declared d) s) f = f
  resolvable a h (Line (Eval e) s) f = as_whole h.scope a.statement e f
  resolvable a h (Line Empty s) f = tt
  resolvable a h (Line (Block ss) s) f = resolvable_lines a (entering h) ss f
  resolvable a h (Line (If e x o) s) f = (f.0, resolvable a h x f.1, resolvable_perhaps a (past h x) o f.2)
  resolvable a h (Line (While e x) s) f = (f.0, resolvable (in_loop a) h x f.1)
  resolvable a h (Line (Do x e) s) f = (f.0, resolvable (in_loop a) h x f.1)
  resolvable a h (Line (For x e g y) s) f =
      (resolvable_perhaps (in_first_part a) (entering h) x f.0, f.1, f.2, resolvable (in_loop a) (past_perhaps (entering h) x) y f.3)
  resolvable a h (Line (Switch e ss) s) f = (f.0, resolvable_lines (in_switch a) (entering h) ss f.1)
  resolvable a h (Line (Case e) s) f = tt
  resolvable a h (Line Default s) f = tt
  resolvable a h (Line Break s) f = tt
  resolvable a h (Line Continue s) f = tt
  resolvable a h (Line (Goto n) s) f = tt
  resolvable a h (Line (Label n x) s) f = resolvable a h x f.1
  resolvable a h (Line (Return e) s) f = returned a h.scope e f

  resolvable_perhaps : (a : Surroundings) (h : Here) (o : Perhaps) → FinePerhaps a h o → ResolvablePerhaps h o
  resolvable_perhaps a h NoStmt f = tt
  resolvable_perhaps a h (OneStmt x) f = resolvable a h x f

  pub resolvable_lines : (a : Surroundings) (h : Here) (ss : Stmts) → FineLines a h ss → ResolvableLines h ss
  resolvable_lines a h NoStmts f = tt
  resolvable_lines a h (MoreStmts x rest) f = (resolvable a h x f.0, resolvable_lines a (past h x) rest f.1)
