-- Each part of the descent of expressions depends on what it took, and on the token after it.
use Rattle.std.proofs.Common.{◌≡◌, ℕ, zero, suc, ◌<◌, List, length, Option, Some, None, Ok, Err, Bool, cond, refl, ap}
use Rattle.std.specs.Prelude.{nat_le, ◌&&◌}
use Rattle.csub_text.specs.declared.span.Span.{Span}
use Rattle.csub_text.specs.declared.operator.BinOp.{BinOp}
use Rattle.csub_lex.specs.declared.token.Key.TheVariants as keys
use Rattle.csub_lex.specs.declared.token.Mark.TheVariants as marks
use Rattle.csub_lex.specs.declared.token.TokenKind.{TokenKind}
use Rattle.csub_lex.specs.declared.token.TokenKind.TheVariants as kinds
use Rattle.csub_lex.specs.declared.token.Token.{Token}
use Rattle.csub_tree.specs.declared.name.Name.{Name}
use Rattle.csub_tree.specs.declared.name.TypeName.{TypeName}
use Rattle.csub_tree.specs.declared.name.TypeName.TheVariants as types
use Rattle.csub_tree.specs.Expressions.{Expr, Node, Number, Char, Text, Named, Paren, Cast, Step, Choose, Assign, Call, Index, Member, NoExprs, exprs_of, span_of}
use Rattle.csub_tree.specs.Depth.{expr_depth}
use Rattle.csub_tree.specs.SpellsExpressions.{Rank, assignment, conditional, binary, postfix, primary, Operator, joined, Prefix, applied, loosest, operator_of, assignment_of, prefix_of}
use Rattle.csub_expr.specs.declared.operator.Tail.{Tail}
use Rattle.csub_expr.specs.declared.operator.Tail.TheVariants as tails
use Rattle.csub_expr.specs.Looks.{begins, begins_key, rest, head_span, op_at, assignment_at, prefix_at, tail_at, begins_number, of_mark, of_level}
use Rattle.csub_expr.specs.Looks as looks
use Rattle.csub_expr.specs.Answers.{Answer, ◌>>=◌, done, refuse, expect, expect_name}
use Rattle.csub_expr.specs.ListDescent.{separated, never}
use Rattle.csub_expr.specs.ExprDescent.{read, joins, is_unary, number_at, paren_at, cast_at, call_at, name_at, word_of, word_at, tail_of, behind_by, behind, open_at, unary_by, unary_at, more_by, more, chain_at, choice_at, cond_at, assign_by, assign_at}
use Rattle.csub_expr.proofs.LawsLocal.{Local, SameAtHead, local_bind, local_done, local_refuse, local_rest, local_at, local_if, local_choice, local_token, local_first, local_expect, local_name, same_begins, same_begins_key, same_begins_number, same_by}
use Rattle.csub_expr.proofs.LawsLists.{local_separated}
use Rattle.csub_expr.proofs.ExprSound.{shorter}

-- what the first token makes of the expression before it depends on it alone
same_op : (k : ℕ) → SameAtHead (Option Operator) (op_at k)
unfolding op_at
same_op k = same_by (Option Operator) (op_at k) (λ t. of_level k (of_mark None operator_of t.kind)) (λ t ts. refl)

same_assignment : SameAtHead (Option (Option BinOp)) assignment_at
unfolding assignment_at
same_assignment = same_by (Option (Option BinOp)) assignment_at (λ t. of_mark None assignment_of t.kind) (λ t ts. refl)

same_prefix : SameAtHead (Option Prefix) prefix_at
unfolding prefix_at
same_prefix = same_by (Option Prefix) prefix_at (λ t. of_mark None prefix_of t.kind) (λ t ts. refl)

same_tail : SameAtHead (Option Tail) tail_at
unfolding tail_at
same_tail = same_by (Option Tail) tail_at (λ t. of_mark None looks.tail_of t.kind) (λ t ts. refl)

local_type : (t : TypeName) → Local TypeName (λ ts. done t (rest ts))
local_type t = local_rest TypeName (done t) (local_done TypeName t)

pub local_number : Local TypeName number_at
unfolding number_at
local_number = local_if TypeName (begins_key keys.Char) (same_begins_key keys.Char) (λ ts. done types.Char (rest ts)) (λ ts. cond (begins_key keys.Int ts) (done types.Int (rest ts)) (cond (begins_key keys.Unsigned ts) (cond (begins_key keys.Int (rest ts)) (done types.Unsigned (rest (rest ts))) (done types.Unsigned (rest ts))) (Err (length ts)))) (local_type types.Char)
    (local_if TypeName (begins_key keys.Int) (same_begins_key keys.Int) (λ ts. done types.Int (rest ts)) (λ ts. cond (begins_key keys.Unsigned ts) (cond (begins_key keys.Int (rest ts)) (done types.Unsigned (rest (rest ts))) (done types.Unsigned (rest ts))) (Err (length ts))) (local_type types.Int)
    (local_if TypeName (begins_key keys.Unsigned) (same_begins_key keys.Unsigned) (λ ts. cond (begins_key keys.Int (rest ts)) (done types.Unsigned (rest (rest ts))) (done types.Unsigned (rest ts))) refuse
    (local_rest TypeName (λ ts. cond (begins_key keys.Int ts) (done types.Unsigned (rest ts)) (done types.Unsigned ts))
    (local_if TypeName (begins_key keys.Int) (same_begins_key keys.Int) (λ ts. done types.Unsigned (rest ts)) (done types.Unsigned) (local_type types.Unsigned) (local_done TypeName types.Unsigned)))
    (local_refuse TypeName)))

same_never : SameAtHead Bool never
same_never ts us e = refl

module _ (below : Rank → List Token → Answer Expr) (d : ℕ) (l_below : (rank : Rank) → Local Expr (below rank)) (shorter : (ts : List Token) (x : Expr) (r : List Token) → below assignment ts ≡ Ok (x, r) → length r < length ts) where
  local_paren : (start : ℕ) → Local Expr (paren_at below d start)
  unfolding paren_at
  local_paren start = local_bind Expr Expr (below assignment) (λ x us. expect marks.CloseParen us >>= λ c. done (joins (Paren x) start c.0.end) c.1) (l_below assignment)
      (λ x. local_bind Span Expr (expect marks.CloseParen) (λ c. done (joins (Paren x) start c.end)) (local_expect marks.CloseParen) (λ c. local_done Expr (joins (Paren x) start c.end)))

  local_cast : (start : ℕ) → Local Expr (cast_at below d start)
  unfolding cast_at
  local_cast start = local_bind TypeName Expr number_at (λ n us. expect marks.CloseParen us >>= λ c. below (binary 0) c.1 >>= λ x. done (joins (Cast n x.0) start (span_of x.0).end) x.1) local_number
      (λ n. local_bind Span Expr (expect marks.CloseParen) (λ c us. below (binary 0) us >>= λ x. done (joins (Cast n x.0) start (span_of x.0).end) x.1) (local_expect marks.CloseParen)
      (λ c. local_bind Expr Expr (below (binary 0)) (λ x. done (joins (Cast n x) start (span_of x).end)) (l_below (binary 0)) (λ x. local_done Expr (joins (Cast n x) start (span_of x).end))))

  local_call : (n : Name) → Local Expr (call_at below d n)
  unfolding call_at
  local_call n = local_if Expr (begins marks.CloseParen) (same_begins marks.CloseParen) (λ ts. done (joins (Call n NoExprs) n.span.start (head_span ts).end) (rest ts)) (λ ts. separated (below assignment) never (suc (length ts)) ts >>= λ es. expect marks.CloseParen es.1 >>= λ c. done (joins (Call n (exprs_of es.0)) n.span.start c.0.end) c.1)
      (local_token Expr (λ sp. done (joins (Call n NoExprs) n.span.start sp.end)) (λ sp. local_done Expr (joins (Call n NoExprs) n.span.start sp.end)))
      (local_bind (List Expr) Expr (λ ts. separated (below assignment) never (suc (length ts)) ts) (λ es us. expect marks.CloseParen us >>= λ c. done (joins (Call n (exprs_of es)) n.span.start c.0.end) c.1) (local_separated (below assignment) never shorter (l_below assignment) same_never)
      (λ es. local_bind Span Expr (expect marks.CloseParen) (λ c. done (joins (Call n (exprs_of es)) n.span.start c.end)) (local_expect marks.CloseParen) (λ c. local_done Expr (joins (Call n (exprs_of es)) n.span.start c.end))))

  local_named : (n : Name) → Local Expr (name_at below d n)
  unfolding name_at
  local_named n = local_if Expr (begins marks.OpenParen) (same_begins marks.OpenParen) (λ ts. call_at below d n (rest ts)) (done (Node (Named n) n.span)) (local_rest Expr (call_at below d n) (local_call n)) (local_done Expr (Node (Named n) n.span))

  local_word_of : (k : TokenKind) → Local Expr (word_of below d k)
  local_word_of (kinds.Number n u) = local_token Expr (λ sp. done (Node (Number n u) sp)) (λ sp. local_done Expr (Node (Number n u) sp))
  local_word_of (kinds.Char b) = local_token Expr (λ sp. done (Node (Char b) sp)) (λ sp. local_done Expr (Node (Char b) sp))
  local_word_of (kinds.Text t) = local_token Expr (λ sp. done (Node (Text t) sp)) (λ sp. local_done Expr (Node (Text t) sp))
  local_word_of (kinds.Name t) = local_token Expr (λ sp. name_at below d (record { text = t; span = sp })) (λ sp. local_named (record { text = t; span = sp }))
  local_word_of (kinds.Mark m) = local_refuse Expr
  local_word_of (kinds.Key k) = local_refuse Expr

  local_word : Local Expr (word_at below d)
  unfolding word_at
  local_word = local_first Expr (word_at below d) (word_of below d) refl (λ t ts. refl) local_word_of

  local_tail : (t : Tail) (e : Expr) (sp : Span) → Local Expr (tail_of below d t e sp)
  local_tail tails.Index e sp = local_bind Expr Expr (below assignment) (λ i us. expect marks.CloseBracket us >>= λ c. done (joins (Index e i) (span_of e).start c.0.end) c.1) (l_below assignment)
      (λ i. local_bind Span Expr (expect marks.CloseBracket) (λ c. done (joins (Index e i) (span_of e).start c.end)) (local_expect marks.CloseBracket) (λ c. local_done Expr (joins (Index e i) (span_of e).start c.end)))
  local_tail tails.Member e sp = local_bind Name Expr expect_name (λ n. done (joins (Member e n) (span_of e).start n.span.end)) local_name (λ n. local_done Expr (joins (Member e n) (span_of e).start n.span.end))
  local_tail (tails.Step o) e sp = local_done Expr (joins (Step o e) (span_of e).start sp.end)

  local_behind_by : (again : Expr → List Token → Answer Expr) → ((x : Expr) → Local Expr (again x)) → (o : Option Tail) (e : Expr) → Local Expr (behind_by below d again o e)
  unfolding behind_by
  local_behind_by again l_again None e = local_done Expr e
  local_behind_by again l_again (Some t) e = local_choice Expr (λ ts. tail_of below d t e (head_span ts) (rest ts) >>= λ x. again x.0 x.1) (done e)
      (local_bind Expr Expr (λ ts. tail_of below d t e (head_span ts) (rest ts)) again (local_token Expr (tail_of below d t e) (local_tail t e)) l_again)
      (local_done Expr e) (nat_le (expr_depth e) d)

  local_behind : (f : ℕ) (e : Expr) → Local Expr (behind below d f e)
  unfolding behind
  local_behind zero e = local_done Expr e
  local_behind (suc f) e = local_at Expr (Option Tail) tail_at same_tail (λ o. behind_by below d (behind below d f) o e) (λ o. local_behind_by (behind below d f) (λ x. local_behind f x) o e)

  local_tails : (p : List Token → Answer Expr) → Local Expr p → Local Expr (λ ts. p ts >>= λ e. behind below d (suc d) e.0 e.1)
  local_tails p l_p = local_bind Expr Expr p (λ e. behind below d (suc d) e) l_p (λ e. local_behind (suc d) e)

  local_open : (start : ℕ) → Local Expr (open_at below d start)
  unfolding open_at
  local_open start = local_if Expr begins_number same_begins_number (cast_at below d start) (λ ts. paren_at below d start ts >>= λ e. behind below d (suc d) e.0 e.1) (local_cast start) (local_tails (paren_at below d start) (local_paren start))

  local_unary_by : (o : Option Prefix) → Local Expr (unary_by below d o)
  unfolding unary_by
  local_unary_by (Some o) = local_choice Expr (λ ts. below (binary 0) (rest ts) >>= λ e. done (joins (applied o e.0) (head_span ts).start (span_of e.0).end) e.1) refuse
      (local_token Expr (λ sp ts. below (binary 0) ts >>= λ e. done (joins (applied o e.0) sp.start (span_of e.0).end) e.1)
      (λ sp. local_bind Expr Expr (below (binary 0)) (λ e. done (joins (applied o e) sp.start (span_of e).end)) (l_below (binary 0)) (λ e. local_done Expr (joins (applied o e) sp.start (span_of e).end))))
      (local_refuse Expr) (nat_le 1 d)
  local_unary_by None = local_if Expr (begins marks.OpenParen) (same_begins marks.OpenParen) (λ ts. cond (nat_le 1 d) (open_at below d (head_span ts).start (rest ts)) (Err (length ts))) (λ ts. word_at below d ts >>= λ e. behind below d (suc d) e.0 e.1)
      (local_choice Expr (λ ts. open_at below d (head_span ts).start (rest ts)) refuse (local_token Expr (λ sp. open_at below d sp.start) (λ sp. local_open sp.start)) (local_refuse Expr) (nat_le 1 d))
      (local_tails (word_at below d) local_word)

  local_unary : Local Expr (unary_at below d)
  unfolding unary_at
  local_unary = local_at Expr (Option Prefix) prefix_at same_prefix (unary_by below d) local_unary_by

  local_more_by : (again : Expr → List Token → Answer Expr) → ((x : Expr) → Local Expr (again x)) → (o : Option Operator) (k : ℕ) (left : Expr) → Local Expr (more_by below d again o k left)
  unfolding more_by
  local_more_by again l_again None k left = local_done Expr left
  local_more_by again l_again (Some o) k left = local_choice Expr (λ ts. below (binary k) (rest ts) >>= λ right. again (joins (joined o left right.0) (span_of left).start (span_of right.0).end) right.1) (done left)
      (local_bind Expr Expr (λ ts. below (binary k) (rest ts)) (λ x. again (joins (joined o left x) (span_of left).start (span_of x).end)) (local_rest Expr (below (binary k)) (l_below (binary k))) (λ x. l_again (joins (joined o left x) (span_of left).start (span_of x).end)))
      (local_done Expr left) (nat_le (expr_depth left) d)

  local_more : (k f : ℕ) (left : Expr) → Local Expr (more below d k f left)
  unfolding more
  local_more k zero left = local_done Expr left
  local_more k (suc f) left = local_at Expr (Option Operator) (op_at k) (same_op k) (λ o. more_by below d (more below d k f) o k left) (λ o. local_more_by (more below d k f) (λ x. local_more k f x) o k left)

  local_chain : (k : ℕ) → Local Expr (chain_at below d k)
  unfolding chain_at
  local_chain zero = local_unary
  local_chain (suc k) = local_bind Expr Expr (chain_at below d k) (λ x. more below d k (suc d) x) (local_chain k) (λ x. local_more k (suc d) x)

  local_choice_at : (e : Expr) → Local Expr (choice_at below d e)
  unfolding choice_at
  local_choice_at e = local_if Expr (λ ts. begins marks.Question ts && nat_le (expr_depth e) d) (λ ts us same. ap (λ (b : Bool). b && nat_le (expr_depth e) d) (same_begins marks.Question ts us same))
      (λ ts. below assignment (rest ts) >>= λ x. expect marks.Colon x.1 >>= λ c. below conditional c.1 >>= λ y. done (joins (Choose e x.0 y.0) (span_of e).start (span_of y.0).end) y.1) (done e)
      (local_bind Expr Expr (λ ts. below assignment (rest ts)) (λ x us. expect marks.Colon us >>= λ c. below conditional c.1 >>= λ y. done (joins (Choose e x y.0) (span_of e).start (span_of y.0).end) y.1) (local_rest Expr (below assignment) (l_below assignment))
      (λ x. local_bind Span Expr (expect marks.Colon) (λ c us. below conditional us >>= λ y. done (joins (Choose e x y.0) (span_of e).start (span_of y.0).end) y.1) (local_expect marks.Colon)
      (λ c. local_bind Expr Expr (below conditional) (λ y. done (joins (Choose e x y) (span_of e).start (span_of y).end)) (l_below conditional) (λ y. local_done Expr (joins (Choose e x y) (span_of e).start (span_of y).end)))))
      (local_done Expr e)

  local_cond : Local Expr (cond_at below d)
  unfolding cond_at
  local_cond = local_bind Expr Expr (chain_at below d loosest) (λ e. choice_at below d e) (local_chain loosest) local_choice_at

  local_assign_by : (o : Option (Option BinOp)) (e : Expr) → Local Expr (assign_by below d o e)
  unfolding assign_by
  local_assign_by None e = local_done Expr e
  local_assign_by (Some o) e = local_choice Expr (λ ts. below assignment (rest ts) >>= λ r. done (joins (Assign o e r.0) (span_of e).start (span_of r.0).end) r.1) (done e)
      (local_bind Expr Expr (λ ts. below assignment (rest ts)) (λ r. done (joins (Assign o e r) (span_of e).start (span_of r).end)) (local_rest Expr (below assignment) (l_below assignment)) (λ r. local_done Expr (joins (Assign o e r) (span_of e).start (span_of r).end)))
      (local_done Expr e) (is_unary e && nat_le (expr_depth e) d)

  local_assign : Local Expr (assign_at below d)
  unfolding assign_at
  local_assign = local_bind Expr Expr (cond_at below d) (λ e us. assign_by below d (assignment_at us) e us) local_cond
      (λ e. local_at Expr (Option (Option BinOp)) assignment_at same_assignment (λ o. assign_by below d o e) (λ o. local_assign_by o e))

pub local_read : (d : ℕ) (rank : Rank) → Local Expr (read d rank)
unfolding read
local_read zero rank = local_refuse Expr
local_read (suc d) assignment = local_assign (read d) d (local_read d) (shorter d assignment)
local_read (suc d) conditional = local_cond (read d) d (local_read d) (shorter d assignment)
local_read (suc d) (binary k) = local_chain (read d) d (local_read d) (shorter d assignment) k
local_read (suc d) postfix = local_refuse Expr
local_read (suc d) primary = local_refuse Expr
