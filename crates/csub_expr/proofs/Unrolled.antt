-- The descent at a budget above 0, and its loops, one turn at a time.
use Rattle.std.proofs.Common.{◌≡◌, ℕ, zero, suc, ◌+◌, ◌-◌, ◌<◌, ◌≤◌, max, List, [], ◌∷◌, ◌++◌, Option, Some, None, Ok, Err, true, refl, arith}
use Rattle.std.proofs.lemmas.Bool.{le-leb, lt-leb}
use Rattle.csub_lex.specs.declared.token.Token.{Token}
use Rattle.csub_text.specs.declared.operator.BinOp.{BinOp}
use Rattle.csub_tree.specs.Expressions.{Expr, Assign, exprs_of, span_of}
use Rattle.csub_tree.specs.Depth.{expr_depth, exprs_depth}
use Rattle.csub_tree.specs.SpellsExpressions.{Rank, assignment, conditional, binary, Operator, joined}
use Rattle.csub_expr.specs.declared.stop.Stop.{Stop}
use Rattle.csub_expr.specs.declared.stop.Stop.TheVariants as stops
use Rattle.csub_expr.specs.declared.operator.Tail.{Tail}
use Rattle.csub_expr.specs.Looks.{rest, head_span, op_at, tail_at, assignment_at}
use Rattle.csub_expr.specs.Answers.{Answer, ◌>>=◌, Fails}
use Rattle.csub_expr.specs.ExprDescent.{read, joins, is_unary, tail_of, behind_by, behind, more_by, more, chain_at, choice_at, cond_at, assign_by, assign_at}

pub fails_bind : {A B : Type 0} (e : Stop) (r : Answer A) (f : _) → Fails e r → Fails {Y = B × List Token} e (r >>= f)
fails_bind stops.Memory r f h = tt
fails_bind (stops.At n) r f h = rw h refl

pub read_looser : (b k : ℕ) (ts : List Token) → 0 < b → read b (binary (k + 1)) ts ≡ (read b (binary k) ts >>= λ left. more (read (b - 1)) (b - 1) k b left.0 left.1)
unfolding read chain_at
read_looser zero k ts hb = elim hb [ ]
read_looser (suc b) k ts hb = let eb : suc b - 1 ≡ b = omega arith in let ek : k + 1 ≡ suc k = omega arith in rw (eb, ek) refl

pub read_conditional : (b : ℕ) (ts : List Token) → 0 < b → read b conditional ts ≡ (read b (binary 10) ts >>= λ e. choice_at (read (b - 1)) (b - 1) e.0 e.1)
unfolding read cond_at
read_conditional zero ts hb = elim hb [ ]
read_conditional (suc b) ts hb = let eb : suc b - 1 ≡ b = omega arith in rw eb refl

pub read_assignment : (b : ℕ) (ts : List Token) → 0 < b → read b assignment ts ≡ (read b (binary 10) ts >>= λ e. choice_at (read (b - 1)) (b - 1) e.0 e.1 >>= λ x. assign_by (read (b - 1)) (b - 1) (assignment_at x.1) x.0 x.1)
unfolding read assign_at cond_at
read_assignment zero ts hb = elim hb [ ]
read_assignment (suc b) ts hb = let eb : suc b - 1 ≡ b = omega arith in rw eb (nested (chain_at (read b) b 10 ts))
  where
    nested : (r : Answer Expr) → ((r >>= λ e. choice_at (read b) b e.0 e.1) >>= λ x. assign_by (read b) b (assignment_at x.1) x.0 x.1) ≡ (r >>= λ e. choice_at (read b) b e.0 e.1 >>= λ x. assign_by (read b) b (assignment_at x.1) x.0 x.1)
    nested (Ok e) = refl
    nested (Err n) = refl

-- what fails at one level fails at each looser one
pub fails_looser : (e : Stop) (b j k : ℕ) (ts : List Token) → Fails e (read b (binary j) ts) → Fails e (read b (binary (k + j)) ts)
unfolding read
fails_looser e zero j k ts h = h
fails_looser e (suc b) j zero ts h = let z : 0 + j ≡ j = omega arith in rw z h
fails_looser e (suc b) j (suc k) ts h = let z : suc k + j ≡ (k + j) + 1 = omega arith in rw (z, read_looser (suc b) (k + j) ts (omega arith)) (fails_bind e (read (suc b) (binary (k + j)) ts) _ (fails_looser e (suc b) j k ts h))

pub some_left : (b : ℕ) (rank : Rank) (ts : List Token) (x : Expr × List Token) → read b rank ts ≡ Ok x → 0 < b
unfolding read
some_left zero rank ts x h = absurd cc
some_left (suc b) rank ts x h = omega arith

-- one turn of the loop of a level
pub more_on : (below : Rank → List Token → Answer Expr) (d k f : ℕ) (left : Expr) (ts : List Token) (o : Operator) → 0 < f → op_at k ts ≡ Some o → expr_depth left ≤ d
    → more below d k f left ts ≡ (below (binary k) (rest ts) >>= λ right. more below d k (f - 1) (joins (joined o left right.0) (span_of left).start (span_of right.0).end) right.1)
unfolding more more_by
more_on below d k zero left ts o hf op fits = elim hf [ ]
more_on below d k (suc f) left ts o hf op fits =
    let ef : suc f - 1 ≡ f = omega arith in
    rw (more, ef, op, le-leb (expr_depth left) d fits) refl

pub more_full : (below : Rank → List Token → Answer Expr) (d k f : ℕ) (left : Expr) (ts : List Token) → d < expr_depth left → more below d k f left ts ≡ Ok (left, ts)
unfolding more more_by
more_full below d k zero left ts full = refl
more_full below d k (suc f) left ts full = go (op_at k ts)
  where
    go : (o : Option Operator) → more_by below d (more below d k f) o k left ts ≡ Ok (left, ts)
    go None = refl
    go (Some o) = rw (lt-leb (expr_depth left) d full) refl

-- one turn of the loop of tails
pub behind_on : (below : Rank → List Token → Answer Expr) (d f : ℕ) (e : Expr) (ts : List Token) (t : Tail) → 0 < f → tail_at ts ≡ Some t → expr_depth e ≤ d
    → behind below d f e ts ≡ (tail_of below d t e (head_span ts) (rest ts) >>= λ x. behind below d (f - 1) x.0 x.1)
unfolding behind behind_by
behind_on below d zero e ts t hf is fits = elim hf [ ]
behind_on below d (suc f) e ts t hf is fits =
    let ef : suc f - 1 ≡ f = omega arith in
    rw (behind, ef, is, le-leb (expr_depth e) d fits) refl

pub behind_full : (below : Rank → List Token → Answer Expr) (d f : ℕ) (e : Expr) (ts : List Token) → d < expr_depth e → behind below d f e ts ≡ Ok (e, ts)
unfolding behind behind_by
behind_full below d zero e ts full = refl
behind_full below d (suc f) e ts full = go (tail_at ts)
  where
    go : (o : Option Tail) → behind_by below d (behind below d f) o e ts ≡ Ok (e, ts)
    go None = refl
    go (Some t) = rw (lt-leb (expr_depth e) d full) refl

-- the depth of one argument more
pub depth_push : (es : List Expr) (e : Expr) → exprs_depth (exprs_of (es ++ e ∷ [])) ≡ max (exprs_depth (exprs_of es)) (expr_depth e)
depth_push [] e = omega arith
depth_push (x ∷ es) e = omega (arith, depth_push es e)

-- an assignment, where the depth allows it and where it doesn't
pub assign_full : (b : ℕ) (ts us vs : List Token) (e left : Expr) (o : Option BinOp) → 0 < b → read b (binary 10) ts ≡ Ok (e, us) → choice_at (read (b - 1)) (b - 1) e us ≡ Ok (left, vs) → assignment_at vs ≡ Some o → is_unary left ≡ true → b ≤ expr_depth left
    → read b assignment ts ≡ Ok (left, vs)
unfolding assign_by
assign_full b ts us vs e left o hb first second is un full =
    let lt : b - 1 < expr_depth left = omega arith in
    rw (read_assignment b ts hb, first, second, is, un, lt-leb (expr_depth left) (b - 1) lt) refl

pub assign_on : (b : ℕ) (ts us vs r : List Token) (e left right : Expr) (o : Option BinOp) → 0 < b → read b (binary 10) ts ≡ Ok (e, us) → choice_at (read (b - 1)) (b - 1) e us ≡ Ok (left, vs) → assignment_at vs ≡ Some o → is_unary left ≡ true → expr_depth left < b
    → read (b - 1) assignment (rest vs) ≡ Ok (right, r) → read b assignment ts ≡ Ok (joins (Assign o left right) (span_of left).start (span_of right).end, r)
unfolding assign_by
assign_on b ts us vs r e left right o hb first second is un fits third =
    let le : expr_depth left ≤ b - 1 = omega arith in
    rw (read_assignment b ts hb, first, second, is, un, le-leb (expr_depth left) (b - 1) le, third) refl
