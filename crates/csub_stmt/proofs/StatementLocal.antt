-- The descent of statements depends on what it took, and on the token after it.
use Rattle.std.proofs.Common.{ℕ, zero, suc, List, length, Option, Some, None, Err, cond, refl}
use Rattle.std.specs.Prelude.{nat_le}
use Rattle.csub_text.specs.declared.span.Span.{Span}
use Rattle.csub_lex.specs.declared.token.Key.{Key}
use Rattle.csub_lex.specs.declared.token.Key.TheVariants as keys
use Rattle.csub_lex.specs.declared.token.Mark.{Mark}
use Rattle.csub_lex.specs.declared.token.Mark.TheVariants as marks
use Rattle.csub_lex.specs.declared.token.Token.{Token}
use Rattle.csub_tree.specs.declared.name.Name.{Name}
use Rattle.csub_tree.specs.Expressions.{Expr, span_of}
use Rattle.csub_tree.specs.Declarations.{Declare}
use Rattle.csub_tree.specs.Statements.{Stmt, StmtKind, Perhaps, Line, Declared, Eval, Empty, Block, If, While, Do, For, Switch, Case, Default, Break, Continue, Goto, Label, Return, NoStmt, OneStmt, stmts_of}
use Rattle.csub_tree.specs.SpellsExpressions.{assignment, conditional}
use Rattle.csub_stmt.specs.declared.opening.Opening.{Opening}
use Rattle.csub_stmt.specs.declared.opening.Opening.TheVariants as openings
use Rattle.csub_expr.specs.Looks.{begins, begins_key, rest, head_span}
use Rattle.csub_expr.specs.Answers.{Answer, ◌>>=◌, done, refuse, expect, expect_name}
use Rattle.csub_expr.specs.ListDescent.{repeated}
use Rattle.csub_expr.specs.ExprDescent.{read}
use Rattle.csub_expr.proofs.LawsLocal.{Local, SameAtHead, local_bind, local_done, local_refuse, local_rest, local_at, local_if, local_choice, local_token, local_expect, local_name, same_begins, same_begins_key, same_by}
use Rattle.csub_expr.proofs.LawsExpressions.{local_read}
use Rattle.csub_stmt.specs.Openings.{begins_base, opening_at, opening_of}
use Rattle.csub_stmt.specs.DeclarationDescent.{decl_at}
use Rattle.csub_stmt.specs.StatementDescent.{stmt_span, line, bare_name, expect_key, maybe_at, declared_at, evaluated_end, evaluated_at, first_at, line_by, case_at, default_at, switch_line_by, ended_by, test_at, block_at, else_at, if_at, while_at, do_at, for_body, for_parts, for_at, switch_body, switch_at, goto_at, return_at, label_at, after_at, plain_at, inner, outer, empty_at, stmt_by, stmt_at, read_stmt, read_line}
use Rattle.csub_stmt.proofs.LawsTakes.{Shorter}
use Rattle.csub_stmt.proofs.LawsSequences.{local_repeated}
use Rattle.csub_stmt.proofs.DeclarationLocal.{local_decl, same_begins_base}
use Rattle.csub_stmt.proofs.StatementSound.{stmt_sound, line_shorter, switch_line_shorter}

pub same_opening : SameAtHead Opening opening_at
unfolding opening_at
same_opening = same_by Opening opening_at (λ t. opening_of t.kind) (λ t ts. refl)

local_expect_key : (k : Key) → Local Span (expect_key k)
unfolding expect_key
local_expect_key k = local_if Span (begins_key k) (same_begins_key k) (λ ts. done (head_span ts) (rest ts)) refuse (local_token Span (λ sp. done sp) (λ sp. local_done Span sp)) (local_refuse Span)

local_maybe : (d : ℕ) (m : Mark) → Local (Option Expr) (maybe_at d m)
unfolding maybe_at
local_maybe d m = local_if (Option Expr) (begins m) (same_begins m) (done None) (λ ts. read d assignment ts >>= λ e. done (Some e.0) e.1) (local_done (Option Expr) None)
    (local_bind Expr (Option Expr) (read d assignment) (λ e. done (Some e)) (local_read d assignment) (λ e. local_done (Option Expr) (Some e)))

local_evaluated_end : (e : Expr) → Local Stmt (evaluated_end e)
unfolding evaluated_end
local_evaluated_end e = local_bind Span Stmt (expect marks.Semicolon) (λ c. done (line (Eval e) (span_of e).start c.end)) (local_expect marks.Semicolon) (λ c. local_done Stmt (line (Eval e) (span_of e).start c.end))

local_evaluated : (d : ℕ) → Local Stmt (evaluated_at d)
unfolding evaluated_at
local_evaluated d = local_bind Expr Stmt (read d assignment) (λ e. evaluated_end e) (local_read d assignment) local_evaluated_end

local_ended : (k : StmtKind) (start : ℕ) → Local Stmt (ended_by k start)
unfolding ended_by
local_ended k start = local_bind Span Stmt (expect marks.Semicolon) (λ c. done (line k start c.end)) (local_expect marks.Semicolon) (λ c. local_done Stmt (line k start c.end))

local_case : (d start : ℕ) → Local Stmt (case_at d start)
unfolding case_at
local_case d start = local_bind Expr Stmt (read d conditional) (λ e us. expect marks.Colon us >>= λ c. done (line (Case e) start c.0.end) c.1) (local_read d conditional)
    (λ e. local_bind Span Stmt (expect marks.Colon) (λ c. done (line (Case e) start c.end)) (local_expect marks.Colon) (λ c. local_done Stmt (line (Case e) start c.end)))

local_default : (start : ℕ) → Local Stmt (default_at start)
unfolding default_at
local_default start = local_bind Span Stmt (expect marks.Colon) (λ c. done (line Default start c.end)) (local_expect marks.Colon) (λ c. local_done Stmt (line Default start c.end))

-- behind the first token, which tells where it begins
local_behind : (p : ℕ → List Token → Answer Stmt) → ((start : ℕ) → Local Stmt (p start)) → Local Stmt (λ ts. p (head_span ts).start (rest ts))
local_behind p h = local_token Stmt (λ sp. p sp.start) (λ sp. h sp.start)

local_declared : (d : ℕ) → Local Stmt (declared_at d)
unfolding declared_at
local_declared d = local_bind Declare Stmt (decl_at d) (λ x. done (Line (Declared x) x.span)) (local_decl d) (λ x. local_done Stmt (Line (Declared x) x.span))

local_one : (p : List Token → Answer Stmt) → Local Stmt p → Local Perhaps (λ ts. p ts >>= λ x. done (OneStmt x.0) x.1)
local_one p h = local_bind Stmt Perhaps p (λ x. done (OneStmt x)) h (λ x. local_done Perhaps (OneStmt x))

local_first : (d : ℕ) → Local Perhaps (first_at d)
unfolding first_at
local_first zero = local_if Perhaps (begins marks.Semicolon) (same_begins marks.Semicolon) (λ ts. done NoStmt (rest ts)) refuse (local_rest Perhaps (done NoStmt) (local_done Perhaps NoStmt)) (local_refuse Perhaps)
local_first (suc d) = local_if Perhaps (begins marks.Semicolon) (same_begins marks.Semicolon) (λ ts. done NoStmt (rest ts)) (λ ts. cond (begins_base ts) (declared_at d ts >>= λ x. done (OneStmt x.0) x.1) (evaluated_at d ts >>= λ x. done (OneStmt x.0) x.1)) (local_rest Perhaps (done NoStmt) (local_done Perhaps NoStmt))
    (local_if Perhaps begins_base same_begins_base (λ ts. declared_at d ts >>= λ x. done (OneStmt x.0) x.1) (λ ts. evaluated_at d ts >>= λ x. done (OneStmt x.0) x.1) (local_one (declared_at d) (local_declared d)) (local_one (evaluated_at d) (local_evaluated d)))

local_line : (d : ℕ) (p : List Token → Answer Stmt) → Local Stmt p → Local Stmt (line_by p d)
unfolding line_by
local_line zero p h = local_refuse Stmt
local_line (suc d) p h = local_if Stmt begins_base same_begins_base (declared_at d) p (local_declared d) h

local_switch_line : (d : ℕ) (p : List Token → Answer Stmt) → Local Stmt p → Local Stmt (switch_line_by p d)
unfolding switch_line_by
local_switch_line zero p h = local_refuse Stmt
local_switch_line (suc d) p h = local_if Stmt (begins_key keys.Case) (same_begins_key keys.Case) (λ ts. cond (nat_le 1 d) (case_at d (head_span ts).start (rest ts)) (Err (length ts))) (λ ts. cond (begins_key keys.Default ts) (default_at (head_span ts).start (rest ts)) (line_by p (suc d) ts))
    (local_choice Stmt (λ ts. case_at d (head_span ts).start (rest ts)) refuse (local_behind (case_at d) (local_case d)) (local_refuse Stmt) (nat_le 1 d))
    (local_if Stmt (begins_key keys.Default) (same_begins_key keys.Default) (λ ts. default_at (head_span ts).start (rest ts)) (line_by p (suc d)) (local_behind default_at local_default) (local_line (suc d) p h))

module _ (below : List Token → Answer Stmt) (d : ℕ) (l_below : Local Stmt below) (line_less : Shorter Stmt (line_by below d)) (switch_less : Shorter Stmt (switch_line_by below d)) where
  local_test : Local Expr (test_at below d)
  unfolding test_at
  local_test = local_bind Span Expr (expect marks.OpenParen) (λ o us. read d assignment us >>= λ e. expect marks.CloseParen e.1 >>= λ c. done e.0 c.1) (local_expect marks.OpenParen)
      (λ o. local_bind Expr Expr (read d assignment) (λ e us. expect marks.CloseParen us >>= λ c. done e c.1) (local_read d assignment)
      (λ e. local_bind Span Expr (expect marks.CloseParen) (λ c. done e) (local_expect marks.CloseParen) (λ c. local_done Expr e)))

  local_block : (start : ℕ) → Local Stmt (block_at below d start)
  unfolding block_at
  local_block start = local_bind (List Stmt) Stmt (λ ts. repeated (line_by below d) (begins marks.CloseBrace) (suc (length ts)) ts) (λ xs us. expect marks.CloseBrace us >>= λ c. done (line (Block (stmts_of xs)) start c.0.end) c.1)
      (local_repeated Stmt (line_by below d) (begins marks.CloseBrace) line_less (local_line d below l_below) (same_begins marks.CloseBrace))
      (λ xs. local_bind Span Stmt (expect marks.CloseBrace) (λ c. done (line (Block (stmts_of xs)) start c.end)) (local_expect marks.CloseBrace) (λ c. local_done Stmt (line (Block (stmts_of xs)) start c.end)))

  local_else : (start : ℕ) (e : Expr) (x : Stmt) → Local Stmt (else_at below d start e x)
  unfolding else_at
  local_else start e x = local_if Stmt (begins_key keys.Else) (same_begins_key keys.Else) (λ ts. below (rest ts) >>= λ y. done (line (If e x (OneStmt y.0)) start (stmt_span y.0).end) y.1) (done (line (If e x NoStmt) start (stmt_span x).end))
      (local_bind Stmt Stmt (λ ts. below (rest ts)) (λ y. done (line (If e x (OneStmt y)) start (stmt_span y).end)) (local_rest Stmt below l_below) (λ y. local_done Stmt (line (If e x (OneStmt y)) start (stmt_span y).end)))
      (local_done Stmt (line (If e x NoStmt) start (stmt_span x).end))

  local_if_at : (start : ℕ) → Local Stmt (if_at below d start)
  unfolding if_at
  local_if_at start = local_bind Expr Stmt (test_at below d) (λ e us. below us >>= λ x. else_at below d start e x.0 x.1) local_test (λ e. local_bind Stmt Stmt below (λ x. else_at below d start e x) l_below (local_else start e))

  local_while : (start : ℕ) → Local Stmt (while_at below d start)
  unfolding while_at
  local_while start = local_bind Expr Stmt (test_at below d) (λ e us. below us >>= λ x. done (line (While e x.0) start (stmt_span x.0).end) x.1) local_test
      (λ e. local_bind Stmt Stmt below (λ x. done (line (While e x) start (stmt_span x).end)) l_below (λ x. local_done Stmt (line (While e x) start (stmt_span x).end)))

  local_do : (start : ℕ) → Local Stmt (do_at below d start)
  unfolding do_at
  local_do start = local_bind Stmt Stmt below (λ x us. expect_key keys.While us >>= λ w. test_at below d w.1 >>= λ e. ended_by (Do x e.0) start e.1) l_below
      (λ x. local_bind Span Stmt (expect_key keys.While) (λ w us. test_at below d us >>= λ e. ended_by (Do x e.0) start e.1) (local_expect_key keys.While)
      (λ w. local_bind Expr Stmt (test_at below d) (λ e. ended_by (Do x e) start) local_test (λ e. local_ended (Do x e) start)))

  local_for_body : (start : ℕ) (p : Perhaps) (e f : Option Expr) → Local Stmt (for_body below d start p e f)
  unfolding for_body
  local_for_body start p e f = local_bind Span Stmt (expect marks.CloseParen) (λ c us. below us >>= λ x. done (line (For p e f x.0) start (stmt_span x.0).end) x.1) (local_expect marks.CloseParen)
      (λ c. local_bind Stmt Stmt below (λ x. done (line (For p e f x) start (stmt_span x).end)) l_below (λ x. local_done Stmt (line (For p e f x) start (stmt_span x).end)))

  local_for_parts : (start : ℕ) (p : Perhaps) → Local Stmt (for_parts below d start p)
  unfolding for_parts
  local_for_parts start p = local_bind (Option Expr) Stmt (maybe_at d marks.Semicolon) (λ e us. expect marks.Semicolon us >>= λ s. maybe_at d marks.CloseParen s.1 >>= λ f. for_body below d start p e f.0 f.1) (local_maybe d marks.Semicolon)
      (λ e. local_bind Span Stmt (expect marks.Semicolon) (λ s us. maybe_at d marks.CloseParen us >>= λ f. for_body below d start p e f.0 f.1) (local_expect marks.Semicolon)
      (λ s. local_bind (Option Expr) Stmt (maybe_at d marks.CloseParen) (λ f. for_body below d start p e f) (local_maybe d marks.CloseParen) (λ f. local_for_body start p e f)))

  local_for : (start : ℕ) → Local Stmt (for_at below d start)
  unfolding for_at
  local_for start = local_bind Span Stmt (expect marks.OpenParen) (λ o us. first_at d us >>= λ p. for_parts below d start p.0 p.1) (local_expect marks.OpenParen)
      (λ o. local_bind Perhaps Stmt (first_at d) (λ p. for_parts below d start p) (local_first d) (λ p. local_for_parts start p))

  local_switch_body : (start : ℕ) (e : Expr) → Local Stmt (switch_body below d start e)
  unfolding switch_body
  local_switch_body start e = local_bind (List Stmt) Stmt (λ ts. repeated (switch_line_by below d) (begins marks.CloseBrace) (suc (length ts)) ts) (λ xs us. expect marks.CloseBrace us >>= λ c. done (line (Switch e (stmts_of xs)) start c.0.end) c.1)
      (local_repeated Stmt (switch_line_by below d) (begins marks.CloseBrace) switch_less (local_switch_line d below l_below) (same_begins marks.CloseBrace))
      (λ xs. local_bind Span Stmt (expect marks.CloseBrace) (λ c. done (line (Switch e (stmts_of xs)) start c.end)) (local_expect marks.CloseBrace) (λ c. local_done Stmt (line (Switch e (stmts_of xs)) start c.end)))

  local_switch : (start : ℕ) → Local Stmt (switch_at below d start)
  unfolding switch_at
  local_switch start = local_bind Expr Stmt (test_at below d) (λ e us. expect marks.OpenBrace us >>= λ o. switch_body below d start e o.1) local_test
      (λ e. local_bind Span Stmt (expect marks.OpenBrace) (λ o. switch_body below d start e) (local_expect marks.OpenBrace) (λ o. local_switch_body start e))

  local_goto : (start : ℕ) → Local Stmt (goto_at below d start)
  unfolding goto_at
  local_goto start = local_bind Name Stmt expect_name (λ n. ended_by (Goto n) start) local_name (λ n. local_ended (Goto n) start)

  local_return : (start : ℕ) → Local Stmt (return_at below d start)
  unfolding return_at
  local_return start = local_bind (Option Expr) Stmt (maybe_at d marks.Semicolon) (λ e. ended_by (Return e) start) (local_maybe d marks.Semicolon) (λ e. local_ended (Return e) start)

  local_label : (n : Name) (start : ℕ) → Local Stmt (label_at below d n start)
  unfolding label_at
  local_label n start = local_bind Stmt Stmt below (λ x. done (line (Label n x) start (stmt_span x).end)) l_below (λ x. local_done Stmt (line (Label n x) start (stmt_span x).end))

  local_after : (o : Option Name) (e : Expr) → Local Stmt (after_at below d o e)
  unfolding after_at
  local_after None e = local_evaluated_end e
  local_after (Some n) e = local_if Stmt (begins marks.Colon) (same_begins marks.Colon) (λ ts. label_at below d n (span_of e).start (rest ts)) (evaluated_end e) (local_rest Stmt (label_at below d n (span_of e).start) (local_label n (span_of e).start)) (local_evaluated_end e)

  local_plain : Local Stmt (plain_at below d)
  unfolding plain_at
  local_plain = local_bind Expr Stmt (read d assignment) (λ e. after_at below d (bare_name e) e) (local_read d assignment) (λ e. local_after (bare_name e) e)

  local_inner : (p : ℕ → List Token → Answer Stmt) → ((start : ℕ) → Local Stmt (p start)) → Local Stmt (inner below d p)
  unfolding inner
  local_inner p h = local_choice Stmt (λ ts. p (head_span ts).start (rest ts)) refuse (local_behind p h) (local_refuse Stmt) (nat_le 1 d)

  local_outer : (p : ℕ → List Token → Answer Stmt) → ((start : ℕ) → Local Stmt (p start)) → Local Stmt (outer below d p)
  unfolding outer
  local_outer p h = local_behind p h

  local_empty : Local Stmt (empty_at below d)
  unfolding empty_at
  local_empty = local_token Stmt (λ sp. done (Line Empty sp)) (λ sp. local_done Stmt (Line Empty sp))

  local_stmt_by : (o : Opening) → Local Stmt (stmt_by below d o)
  unfolding stmt_by
  local_stmt_by openings.Brace = local_outer (block_at below d) local_block
  local_stmt_by openings.Semicolon = local_empty
  local_stmt_by openings.If = local_inner (if_at below d) local_if_at
  local_stmt_by openings.While = local_inner (while_at below d) local_while
  local_stmt_by openings.Do = local_inner (do_at below d) local_do
  local_stmt_by openings.For = local_inner (for_at below d) local_for
  local_stmt_by openings.Switch = local_inner (switch_at below d) local_switch
  local_stmt_by openings.Break = local_outer (ended_by Break) (local_ended Break)
  local_stmt_by openings.Continue = local_outer (ended_by Continue) (local_ended Continue)
  local_stmt_by openings.Goto = local_outer (goto_at below d) local_goto
  local_stmt_by openings.Return = local_outer (return_at below d) local_return
  local_stmt_by openings.Plain = local_plain

  local_stmt_at : Local Stmt (stmt_at below d)
  unfolding stmt_at
  local_stmt_at = local_at Stmt Opening opening_at same_opening (stmt_by below d) local_stmt_by

pub local_stmt : (d : ℕ) → Local Stmt (read_stmt d)
unfolding read_stmt
local_stmt zero = local_refuse Stmt
local_stmt (suc d) = local_stmt_at (read_stmt d) d (local_stmt d) (line_shorter d (read_stmt d) (stmt_sound d)) (switch_line_shorter d (read_stmt d) (stmt_sound d))

pub local_read_line : (d : ℕ) → Local Stmt (read_line d)
unfolding read_line
local_read_line d = local_line d (read_stmt d) (local_stmt d)
