-- A statement without a fault can be resolved, and leaves each object with a type.
use Rattle.std.proofs.Common.{◌≡◌, [], Option, Some, None, is_some, not}
use Rattle.csub_tree.specs.Expressions.{Expr}
use Rattle.csub_text.specs.declared.span.Span.{Span}
use Rattle.csub_tree.specs.Statements.{Stmt, Perhaps, Stmts, Line, Declared, Eval, Empty, Block, If, While, Do, For, Switch}
use Rattle.csub_tree.specs.Statements.{Case, Default, Break, Continue, Goto, Label, Return, NoStmt, OneStmt, NoStmts, MoreStmts}
use Rattle.csub_scopes.specs.Scopes.{Scope, HasTypes}
use Rattle.csub_rules.specs.Words.{word_break, word_continue, word_return}
use Rattle.csub_rules.specs.Faults.{fault_if}
use Rattle.csub_rules.specs.Uses.{Use, as_part, as_number, as_constant, use_fault}
use Rattle.csub_rules.specs.Here.{Here, entering, is_reserved}
use Rattle.csub_rules.specs.Past.{past, past_perhaps, past_lines}
use Rattle.csub_rules.specs.CaseLabels.{switch_kind, labels_fault}
use Rattle.csub_rules.specs.StmtFaults.{Surroundings, in_loop, in_switch, in_first_part, is_label, part_fault, return_fault}
use Rattle.csub_rules.specs.StmtFaults.{stmt_fault, perhaps_fault, lines_fault}
use Rattle.csub_rules.specs.FineStmt.{FinePart, FineReturn, FineStmt, FinePerhaps, FineLines}
use Rattle.csub_rules.proofs.LawsEarlier.{neither, three_none, four_none, no_test}
use Rattle.csub_rules.proofs.LawsServed.{holds}
use Rattle.csub_rules.proofs.LawsUses.{fine_use, is_false}
use Rattle.csub_rules.proofs.LawsLocals.{declare_found}
use Rattle.csub_rules.proofs.LawsCases.{labels_differ}

pub record StmtFound (a : Surroundings) (h : Here) (t : Stmt) : Type 0 where
  pub fine : FineStmt a h t
  pub types : HasTypes (past h t).scope

record PerhapsFound (a : Surroundings) (h : Here) (o : Perhaps) : Type 0 where
  fine : FinePerhaps a h o
  types : HasTypes (past_perhaps h o).scope

pub record LinesFound (a : Surroundings) (h : Here) (ss : Stmts) : Type 0 where
  pub fine : FineLines a h ss
  pub types : HasTypes (past_lines h ss).scope

fine_part : (scope : Scope) (u : Use) (o : Option Expr) → HasTypes scope → part_fault scope u o ≡ None → FinePart scope u o
fine_part scope u None types p = tt
fine_part scope u (Some e) types p = fine_use scope types u e p

fine_return : (a : Surroundings) (scope : Scope) (o : Option Expr) (s : Span) → HasTypes scope → return_fault a scope o s ≡ None
    → FineReturn a scope o
fine_return a scope None s types p = is_false (is_some a.result) (no_test (is_some a.result) 15 (word_return s) p)
fine_return a scope (Some e) s types p =
    let q = neither (fault_if (not (is_some a.result)) 15 (word_return s)) (use_fault scope as_number e) p in
    (holds (is_some a.result) 15 (word_return s) q.0, fine_use scope types as_number e q.1)

mutual
  pub stmt_found : (a : Surroundings) (h : Here) (t : Stmt) → HasTypes h.scope → stmt_fault a h t ≡ None → StmtFound a h t
  stmt_found a h (Line (Declared d) s) types p = let x = declare_found h d types p in record { fine = x.fine; types = x.types }
  stmt_found a h (Line (Eval e) s) types p = record { fine = fine_use h.scope types a.statement e p; types = types }
  stmt_found a h (Line Empty s) types p = record { fine = tt; types = types }
  stmt_found a h (Line (Block ss) s) types p =
      let x = lines_found a (entering h) ss types p in record { fine = x.fine; types = types }
  stmt_found a h (Line (If e x o) s) types p =
      let q = three_none (use_fault h.scope as_number e) (stmt_fault a h x) (perhaps_fault a (past h x) o) p in
      let y = stmt_found a h x types q.1 in
      let z = perhaps_found a (past h x) o y.types q.2 in
      record { fine = (fine_use h.scope types as_number e q.0, y.fine, z.fine); types = z.types }
  stmt_found a h (Line (While e x) s) types p =
      let q = neither (use_fault h.scope as_number e) (stmt_fault (in_loop a) h x) p in
      let y = stmt_found (in_loop a) h x types q.1 in
      record { fine = (fine_use h.scope types as_number e q.0, y.fine); types = y.types }
  stmt_found a h (Line (Do x e) s) types p =
      let q = neither (use_fault h.scope as_number e) (stmt_fault (in_loop a) h x) p in
      let y = stmt_found (in_loop a) h x types q.1 in
      record { fine = (fine_use h.scope types as_number e q.0, y.fine); types = y.types }
  stmt_found a h (Line (For x e f y) s) types p =
      let q = four_none (perhaps_fault (in_first_part a) (entering h) x) (part_fault (past_perhaps (entering h) x).scope as_number e)
      (part_fault (past_perhaps (entering h) x).scope as_part f) (stmt_fault (in_loop a) (past_perhaps (entering h) x) y) p in
      let z = perhaps_found (in_first_part a) (entering h) x types q.0 in
      let w = stmt_found (in_loop a) (past_perhaps (entering h) x) y z.types q.3 in
      record {
        fine = (
          z.fine,
          fine_part (past_perhaps (entering h) x).scope as_number e z.types q.1,
          fine_part (past_perhaps (entering h) x).scope as_part f z.types q.2,
          w.fine,
        );
        types = types;
      }
  stmt_found a h (Line (Switch e ss) s) types p =
      let q = three_none (use_fault h.scope as_number e) (lines_fault (in_switch a) (entering h) ss)
      (labels_fault (switch_kind h.scope e) (entering h) [] ss) p in
      let x = lines_found (in_switch a) (entering h) ss types q.1 in
      record {
        fine = (fine_use h.scope types as_number e q.0, x.fine, labels_differ (switch_kind h.scope e) (entering h) [] ss q.2);
        types = types;
      }
  stmt_found a h (Line (Case e) s) types p = record { fine = fine_use h.scope types as_constant e p; types = types }
  stmt_found a h (Line Default s) types p = record { fine = tt; types = types }
  stmt_found a h (Line Break s) types p = record { fine = holds a.can_break 16 (word_break s) p; types = types }
  stmt_found a h (Line Continue s) types p = record { fine = holds a.can_continue 16 (word_continue s) p; types = types }
  stmt_found a h (Line (Goto n) s) types p = record { fine = holds (is_label a.labels n.text) 17 n.span p; types = types }
  stmt_found a h (Line (Label n x) s) types p =
      let q = neither (fault_if (is_reserved n.text) 3 n.span) (stmt_fault a h x) p in
      let y = stmt_found a h x types q.1 in
      record { fine = (is_false (is_reserved n.text) (no_test (is_reserved n.text) 3 n.span q.0), y.fine); types = y.types }
  stmt_found a h (Line (Return o) s) types p = record { fine = fine_return a h.scope o s types p; types = types }

  perhaps_found : (a : Surroundings) (h : Here) (o : Perhaps) → HasTypes h.scope → perhaps_fault a h o ≡ None → PerhapsFound a h o
  perhaps_found a h NoStmt types p = record { fine = tt; types = types }
  perhaps_found a h (OneStmt x) types p = let y = stmt_found a h x types p in record { fine = y.fine; types = y.types }

  pub lines_found : (a : Surroundings) (h : Here) (ss : Stmts) → HasTypes h.scope → lines_fault a h ss ≡ None → LinesFound a h ss
  lines_found a h NoStmts types p = record { fine = tt; types = types }
  lines_found a h (MoreStmts x rest) types p =
      let q = neither (stmt_fault a h x) (lines_fault a (past h x) rest) p in
      let y = stmt_found a h x types q.0 in
      let z = lines_found a (past h x) rest y.types q.1 in
      record { fine = (y.fine, z.fine); types = z.types }
