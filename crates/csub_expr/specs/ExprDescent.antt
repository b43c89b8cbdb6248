-- The descent of expressions as a function on lists of tokens. It is not what a spelling means (that is SpellsExpr): the
-- functions of the code are proved to give it, and the contracts of the module `laws` tie it to SpellsExpr.
use Rattle.std.specs.Prelude.{ℕ, zero, suc, List, [], ◌∷◌, length, Option, Some, None, Ok, Err}
use Rattle.std.specs.Prelude.{Bool, true, false, ◌&&◌, nat_le, if◌then◌else◌}
use Rattle.csub_text.specs.declared.span.Span.{Span}
use Rattle.csub_text.specs.declared.operator.BinOp.{BinOp}
use Rattle.csub_lex.specs.declared.token.Key.TheVariants as keys
use Rattle.csub_lex.specs.declared.token.Mark.TheVariants as marks
use Rattle.csub_lex.specs.declared.token.TokenKind.{TokenKind}
use Rattle.csub_lex.specs.declared.token.TokenKind.TheVariants as kinds
use Rattle.csub_lex.specs.declared.token.Token.{Token}
use Rattle.csub_tree.specs.declared.name.Name.{Name}
use Rattle.csub_tree.specs.declared.name.TypeName.{TypeName}
use Rattle.csub_tree.specs.declared.name.TypeName.TheVariants as types
use Rattle.csub_tree.specs.Expressions.{Expr, Kind, Node, Number, Char, Text, Named, Paren, Cast, Step, Binary, And, Or, Choose, Assign, Call}
use Rattle.csub_tree.specs.Expressions.{Index, Member, NoExprs, exprs_of, span_of}
use Rattle.csub_tree.specs.Depth.{expr_depth}
use Rattle.csub_tree.specs.SpellsExpressions.{Rank, assignment, conditional, binary, postfix, primary, Operator, joined, loosest, Prefix, applied}
use Rattle.csub_expr.specs.declared.operator.Tail.{Tail}
use Rattle.csub_expr.specs.declared.operator.Tail.TheVariants as tails
use Rattle.csub_expr.specs.Looks.{begins, begins_key, rest, head_span, op_at, assignment_at, prefix_at, tail_at, begins_number}
use Rattle.csub_expr.specs.Answers.{Answer, ◌>>=◌, expect, expect_name}
use Rattle.csub_expr.specs.ListDescent.{separated, never}

-- a node from one byte to another
abbrev pub joins : Kind → ℕ → ℕ → Expr
joins k start end = Node k (record { start = start; end = end })

-- an expression that may stand left of an assignment
abbrev pub is_unary : Expr → Bool
is_unary (Node (Binary o a b) s) = false
is_unary (Node (And a b) s) = false
is_unary (Node (Or a b) s) = false
is_unary (Node (Choose a b c) s) = false
is_unary (Node (Assign o a b) s) = false
is_unary (Node _ s) = true

-- number = "char" | "int" | "unsigned" ["int"]
unfoldable pub number_at : List Token → Answer TypeName
number_at ts =
    if begins_key keys.Char ts then Ok (types.Char, rest ts) else (
    if begins_key keys.Int ts then Ok (types.Int, rest ts) else (
    if begins_key keys.Unsigned ts then (
    if begins_key keys.Int (rest ts) then Ok (types.Unsigned, rest (rest ts)) else Ok (types.Unsigned, rest ts)
    ) else Err (length ts)))

-- below reads with the next depth, d, which is the most that what stands inside may have
module _ (below : Rank → List Token → Answer Expr) (d : ℕ) where
  -- behind "(", which began at start
  unfoldable pub paren_at : ℕ → List Token → Answer Expr
  paren_at start ts = do
    inner ← below assignment ts
    close ← expect marks.CloseParen inner.1
    Ok (joins (Paren inner.0) start close.0.end, close.1)

  -- a cast, behind "(", which began at start
  unfoldable pub cast_at : ℕ → List Token → Answer Expr
  cast_at start ts = do
    n ← number_at ts
    close ← expect marks.CloseParen n.1
    inner ← below (binary 0) close.1
    Ok (joins (Cast n.0 inner.0) start (span_of inner.0).end, inner.1)

  -- behind a name and "(": no argument, or some
  unfoldable pub call_at : Name → List Token → Answer Expr
  call_at n ts =
      if begins marks.CloseParen ts then Ok (joins (Call n NoExprs) n.span.start (head_span ts).end, rest ts) else (
      separated (below assignment) never (suc (length ts)) ts >>= λ es.
      expect marks.CloseParen es.1 >>= λ close.
      Ok (joins (Call n (exprs_of es.0)) n.span.start close.0.end, close.1)
      )

  -- behind a name
  unfoldable pub name_at : Name → List Token → Answer Expr
  name_at n ts = if begins marks.OpenParen ts then call_at n (rest ts) else Ok (Node (Named n) n.span, ts)

  -- by the kind of its token
  abbrev pub word_of : TokenKind → List Token → Answer Expr
  word_of (kinds.Number n u) ts = Ok (Node (Number n u) (head_span ts), rest ts)
  word_of (kinds.Char b) ts = Ok (Node (Char b) (head_span ts), rest ts)
  word_of (kinds.Text t) ts = Ok (Node (Text t) (head_span ts), rest ts)
  word_of (kinds.Name t) ts = name_at (record { text = t; span = head_span ts }) (rest ts)
  word_of (kinds.Mark m) ts = Err (length ts)
  word_of (kinds.Key k) ts = Err (length ts)

  -- a primary expression without parentheses around it
  unfoldable pub word_at : List Token → Answer Expr
  word_at [] = Err 0
  word_at (t ∷ ts) = word_of t.kind (t ∷ ts)

  -- behind a mark that makes a postfix expression longer, which stands at sp
  abbrev pub tail_of : Tail → Expr → Span → List Token → Answer Expr
  tail_of tails.Index e sp ts = do
    i ← below assignment ts
    close ← expect marks.CloseBracket i.1
    Ok (joins (Index e i.0) (span_of e).start close.0.end, close.1)
  tail_of tails.Member e sp ts = do
    n ← expect_name ts
    Ok (joins (Member e n.0) (span_of e).start n.0.span.end, n.1)
  tail_of (tails.Step o) e sp ts = Ok (joins (Step o e) (span_of e).start sp.end, ts)

  -- one tail, and again those behind it
  unfoldable pub behind_by : (Expr → List Token → Answer Expr) → Option Tail → Expr → List Token → Answer Expr
  behind_by again None e ts = Ok (e, ts)
  behind_by again (Some t) e ts =
      if nat_le (expr_depth e) d then (tail_of t e (head_span ts) (rest ts) >>= λ x. again x.0 x.1) else Ok (e, ts)

  -- the tails that come, as long as the depth allows; fuel is more than the depth allows
  unfoldable pub behind : ℕ → Expr → List Token → Answer Expr
  behind zero e ts = Ok (e, ts)
  behind (suc f) e ts = behind_by (behind f) (tail_at ts) e ts

  -- behind "(": a cast where a number type comes, and else a parenthesis with its tails
  unfoldable pub open_at : ℕ → List Token → Answer Expr
  open_at start ts =
      if begins_number ts then cast_at start ts else (paren_at start ts >>= λ e. behind (suc d) e.0 e.1)

  -- a token that opens a node with another inside is refused where no depth is left for that
  unfoldable pub unary_by : Option Prefix → List Token → Answer Expr
  unary_by (Some o) ts =
      if nat_le 1 d then (
      below (binary 0) (rest ts) >>= λ e.
      Ok (joins (applied o e.0) (head_span ts).start (span_of e.0).end, e.1)
      ) else Err (length ts)
  unary_by None ts =
      if begins marks.OpenParen ts then (
      if nat_le 1 d then open_at (head_span ts).start (rest ts) else Err (length ts)
      ) else (word_at ts >>= λ e. behind (suc d) e.0 e.1)

  -- a unary expression
  unfoldable pub unary_at : List Token → Answer Expr
  unary_at ts = unary_by (prefix_at ts) ts

  -- one operator of level k with its right side, and again those behind it
  unfoldable pub more_by : (Expr → List Token → Answer Expr) → Option Operator → ℕ → Expr → List Token → Answer Expr
  more_by again None k left ts = Ok (left, ts)
  more_by again (Some o) k left ts =
      if nat_le (expr_depth left) d then (
      below (binary k) (rest ts) >>= λ right.
      again (joins (joined o left right.0) (span_of left).start (span_of right.0).end) right.1
      ) else Ok (left, ts)

  -- operators of level k and their right sides, as long as they come and the depth allows
  unfoldable pub more : ℕ → ℕ → Expr → List Token → Answer Expr
  more k zero left ts = Ok (left, ts)
  more k (suc f) left ts = more_by (more k f) (op_at k ts) k left ts

  -- an expression of the binary level k
  unfoldable pub chain_at : ℕ → List Token → Answer Expr
  chain_at zero ts = unary_at ts
  chain_at (suc k) ts = do
    left ← chain_at k ts
    more k (suc d) left.0 left.1

  -- what "?" makes of the expression before it
  unfoldable pub choice_at : Expr → List Token → Answer Expr
  choice_at e ts =
      if begins marks.Question ts && nat_le (expr_depth e) d then (
      below assignment (rest ts) >>= λ x.
      expect marks.Colon x.1 >>= λ colon.
      below conditional colon.1 >>= λ y.
      Ok (joins (Choose e x.0 y.0) (span_of e).start (span_of y.0).end, y.1)
      ) else Ok (e, ts)

  -- a conditional expression
  unfoldable pub cond_at : List Token → Answer Expr
  cond_at ts = do
    e ← chain_at loosest ts
    choice_at e.0 e.1

  -- what an assignment operator makes of the expression before it
  unfoldable pub assign_by : Option (Option BinOp) → Expr → List Token → Answer Expr
  assign_by None e ts = Ok (e, ts)
  assign_by (Some o) e ts =
      if is_unary e && nat_le (expr_depth e) d then (
      below assignment (rest ts) >>= λ r.
      Ok (joins (Assign o e r.0) (span_of e).start (span_of r.0).end, r.1)
      ) else Ok (e, ts)

  -- an assignment
  unfoldable pub assign_at : List Token → Answer Expr
  assign_at ts = do
    e ← cond_at ts
    assign_by (assignment_at e.1) e.0 e.1

-- an expression of the rank, of at most the depth
unfoldable pub read : ℕ → Rank → List Token → Answer Expr
read zero rank ts = Err (length ts)
read (suc d) assignment ts = assign_at (read d) d ts
read (suc d) conditional ts = cond_at (read d) d ts
read (suc d) (binary k) ts = chain_at (read d) d k ts
read (suc d) postfix ts = Err (length ts)
read (suc d) primary ts = Err (length ts)
