-- Chains of operators, choices and assignments that are spelled so are read.
use Rattle.std.proofs.Common.{◌≡◌, ℕ, zero, suc, ◌+◌, ◌-◌, ◌<◌, ◌≤◌, List, ◌∷◌, ◌++◌, length, Option, Some, None, Ok, true, false, refl, sym, ap, ◌∙◌, arith, append_assoc}
use Rattle.std.proofs.lemmas.Bool.{le-leb, ne_eqb, eq-eqb}
use Rattle.csub_text.specs.declared.span.Span.{Span}
use Rattle.csub_text.specs.declared.operator.BinOp.{BinOp}
use Rattle.csub_lex.specs.declared.token.Mark.{Mark}
use Rattle.csub_lex.specs.declared.token.Mark.TheVariants as marks
use Rattle.csub_lex.specs.declared.token.Token.{Token}
use Rattle.csub_tree.specs.Expressions.{Expr, Node, Choose, Assign, span_of}
use Rattle.csub_tree.specs.Depth.{expr_depth}
use Rattle.csub_tree.specs.Tokens.{mark, runs}
use Rattle.csub_tree.specs.SpellsExpressions.{Rank, assignment, conditional, binary, Operator, joined, operator_of, level_of, assignment_of, loosest}
use Rattle.csub_expr.specs.Looks.{begins, rest, head_span, op_at, of_level, assignment_at, tail_at}
use Rattle.csub_expr.specs.Answers.{Answer, ◌>>=◌, done, expect}
use Rattle.csub_expr.specs.ExprDescent.{read, joins, is_unary, more_by, more, chain_at, choice_at, cond_at, assign_by, assign_at}
use Rattle.csub_expr.proofs.LawsTokens.{nonempty_append, last_behind}
use Rattle.csub_expr.proofs.Places.{joins_runs, starts, ends}
use Rattle.csub_expr.proofs.Spelled.{depth_pos, joined_depth}
use Rattle.csub_expr.proofs.ExprReads.{Claim, Reads, Spine, assign_continues, ends_at, more_none, op_continues}
use Rattle.csub_expr.specs.Laws.{Ends, NoOps}

-- chains
no_fewer : (k : ℕ) (r : List Token) → NoOps (suc k) r → NoOps k r
no_fewer k r h j lt = h j (omega arith)

spine_ends : (k : ℕ) (e : Expr) (s : List Token) → Spine k e s → Reads (binary (suc k)) e s
unfolding read chain_at
spine_ends k e s h zero fits r ends' = absurd (omega (arith, depth_pos e))
spine_ends k e s h (suc d) fits r ends' =
    let p = h d fits r (ends'.0, no_fewer k r ends'.1) in
    let sum : suc d ≡ p.0 + (suc d - p.0) = omega (arith, p.1) in
    ap (λ n. read (suc d) (binary k) (s ++ r) >>= λ l. more (read d) d k n l.0 l.1) sum ∙ p.2 (suc d - p.0) ∙ more_none (read d) d k (suc d - p.0) e r (ends'.1 k (omega arith))

pub reads_binary : (k : ℕ) (e : Expr) (s : List Token) → Claim (binary k) e s → Reads (binary k) e s
reads_binary zero e s h = h
reads_binary (suc k) e s h = spine_ends k e s h

pub spine_tighter : (k : ℕ) (e : Expr) (s : List Token) → Reads (binary k) e s → Spine k e s
spine_tighter k e s h d fits r ends' = (0, depth_pos e, λ f. let z : 0 + f ≡ f = omega arith in rw (z, h (suc d) fits r ends') refl)

-- the operator's token is one of its level alone
of_level_here : (k : ℕ) (o : Operator) → level_of o ≡ k → of_level k (Some o) ≡ Some o
of_level_here k o e = rw (eq-eqb (level_of o) k e) refl

of_level_not : (j : ℕ) (o : Operator) → (level_of o ≡ j → ⊥) → of_level j (Some o) ≡ None
of_level_not j o ne = rw (ne_eqb (level_of o) j ne) refl

op_here : (k : ℕ) (o : Operator) (m : Mark) (a : Span) (ts : List Token) → operator_of m ≡ Some o → level_of o ≡ k → op_at k (mark m a ∷ ts) ≡ Some o
unfolding op_at
op_here k o m a ts is level = ap (of_level k) is ∙ of_level_here k o level

op_ends : (k : ℕ) (o : Operator) (m : Mark) (a : Span) (ts : List Token) → operator_of m ≡ Some o → level_of o ≡ k → Ends (binary k) (mark m a ∷ ts)
unfolding op_at tail_at begins
op_ends k o m a ts is level = let c = op_continues m o is in (c, λ j lt. ap (of_level j) is ∙ of_level_not j o (λ same. omega (arith, lt, level, same)))

one_more : (below : Rank → List Token → Answer Expr) (d k f : ℕ) (left : Expr) (t : Token) (ts : List Token) (o : Operator) → op_at k (t ∷ ts) ≡ Some o → expr_depth left ≤ d
    → more below d k (suc f) left (t ∷ ts) ≡ (below (binary k) ts >>= λ right. more below d k f (joins (joined o left right.0) (span_of left).start (span_of right.0).end) right.1)
unfolding more more_by rest
one_more below d k f left t ts o is fits = rw (more, is, le-leb (expr_depth left) d fits) refl

pub spine_operated : (k : ℕ) (o : Operator) (l r : Expr) (s t : List Token) (m : Mark) (a : Span) → operator_of m ≡ Some o → level_of o ≡ k → Spine k l s → 0 < length s → span_of l ≡ runs s
    → Reads (binary k) r t → 0 < length t → span_of r ≡ runs t
    → Spine k (Node (joined o l r) (runs (s ++ mark m a ∷ t))) (s ++ mark m a ∷ t)
spine_operated k o l r s t m a is level hl n₁ e₁ hr n₂ e₂ d fits after ends' =
    let c = mark m a in
    let deep = joined_depth o l r in
    let fits_l : expr_depth l ≤ d = omega (arith, deep) in
    let fits_r : expr_depth r ≤ d = omega (arith, deep) in
    let p = hl d (omega arith) (c ∷ (t ++ after)) (op_ends k o m a (t ++ after) is level) in (
      suc p.0,
      omega (arith, p.1, deep),
      λ f.
          let sum : suc p.0 + f ≡ p.0 + suc f = omega arith in
          let shape : (s ++ c ∷ t) ++ after ≡ s ++ (c ∷ (t ++ after)) = append_assoc s (c ∷ t) after in
          rw (
            sum,
            shape,
            p.2 (suc f),
            one_more (read d) d k f l c (t ++ after) o (op_here k o m a (t ++ after) is level) fits_l,
            hr d fits_r after ends',
            joins_runs (joined o l r) (span_of l).start (span_of r).end (s ++ c ∷ t) (starts (span_of l) s (c ∷ t) e₁ n₁) (ends (span_of r) t e₂ ∙ sym (last_behind s c t n₂)),
          ) refl,
    )

-- a looser chain reads what a tighter one reads, where nothing follows for it
loosen : (k d : ℕ) (ts : List Token) (e : Expr) (r : List Token) → read (suc d) (binary zero) ts ≡ Ok (e, r) → NoOps k r → read (suc d) (binary k) ts ≡ Ok (e, r)
unfolding read chain_at
loosen zero d ts e r h ends' = h
loosen (suc k) d ts e r h ends' = rw (loosen k d ts e r h (no_fewer k r ends')) (more_none (read d) d k (suc d) e r (ends' k (omega arith)))

-- conditional and assignment expressions
no_question : (below : Rank → List Token → Answer Expr) (d : ℕ) (e : Expr) (ts : List Token) → begins marks.Question ts ≡ false → choice_at below d e ts ≡ Ok (e, ts)
unfolding choice_at
no_question below d e ts none = rw none refl

pub reads_no_choice : (e : Expr) (s : List Token) → Reads (binary loosest) e s → Reads conditional e s
unfolding read cond_at
reads_no_choice e s h zero fits r ends' = absurd (omega (arith, depth_pos e))
reads_no_choice e s h (suc d) fits r ends' = rw (h (suc d) fits r (ends'.0, ends'.1)) (no_question (read d) d e r ends'.2)

one_choice : (below : Rank → List Token → Answer Expr) (d : ℕ) (e : Expr) (a : Span) (ts : List Token) → expr_depth e ≤ d
    → choice_at below d e (mark marks.Question a ∷ ts) ≡ (below assignment ts >>= λ x. expect marks.Colon x.1 >>= λ colon. below conditional colon.1 >>= λ y. done (joins (Choose e x.0 y.0) (span_of e).start (span_of y.0).end) y.1)
unfolding choice_at begins rest
one_choice below d e a ts fits = rw (le-leb (expr_depth e) d fits) refl

pub reads_choice : (e x y : Expr) (s t u : List Token) (a b : Span) → Reads (binary loosest) e s → 0 < length s → span_of e ≡ runs s → Reads assignment x t → Reads conditional y u → 0 < length u → span_of y ≡ runs u
    → Reads conditional (Node (Choose e x y) (runs (s ++ mark marks.Question a ∷ (t ++ mark marks.Colon b ∷ u)))) (s ++ mark marks.Question a ∷ (t ++ mark marks.Colon b ∷ u))
unfolding read cond_at expect begins rest head_span tail_at op_at
reads_choice e x y s t u a b he n₁ e₁ hx hy n₂ e₂ zero fits r ends' = absurd (omega arith)
reads_choice e x y s t u a b he n₁ e₁ hx hy n₂ e₂ (suc d) fits r ends' =
    let q = mark marks.Question a in
    let c = mark marks.Colon b in
    let fits_e : expr_depth e ≤ d = omega arith in
    let fits_x : expr_depth x ≤ d = omega arith in
    let fits_y : expr_depth y ≤ d = omega arith in
    let shape : (s ++ q ∷ (t ++ c ∷ u)) ++ r ≡ s ++ (q ∷ (t ++ (c ∷ (u ++ r)))) = append_assoc s (q ∷ (t ++ c ∷ u)) r ∙ ap (λ (v : List Token). s ++ (q ∷ v)) (append_assoc t (c ∷ u) r) in
    let left : read (suc d) (binary loosest) (s ++ (q ∷ (t ++ (c ∷ (u ++ r))))) ≡ Ok (e, q ∷ (t ++ (c ∷ (u ++ r)))) = he (suc d) (omega arith) (q ∷ (t ++ (c ∷ (u ++ r)))) ((refl, refl), λ j lt. refl) in
    rw (
      shape,
      left,
      one_choice (read d) d e a (t ++ (c ∷ (u ++ r))) fits_e,
      hx d fits_x (c ∷ (u ++ r)) (ends_at marks.Colon (record { no_operator = refl; no_tail = refl; no_assignment = refl; no_open = refl; no_question = refl }) b (u ++ r)),
      hy d fits_y r ends',
      joins_runs (Choose e x y) (span_of e).start (span_of y).end (s ++ q ∷ (t ++ c ∷ u)) (starts (span_of e) s (q ∷ (t ++ c ∷ u)) e₁ n₁) (ends (span_of y) u e₂ ∙ sym (last_behind s q (t ++ c ∷ u) (nonempty_append t c u) ∙ last_behind t c u n₂)),
    ) refl

pub reads_no_assignment : (e : Expr) (s : List Token) → Reads conditional e s → Reads assignment e s
unfolding read assign_at assign_by
reads_no_assignment e s h zero fits r ends' = absurd (omega (arith, depth_pos e))
reads_no_assignment e s h (suc d) fits r ends' = rw (h (suc d) fits r (ends'.0, ends'.1, ends'.2), ends'.3) refl

assign_ends : (m : Mark) (o : Option BinOp) (a : Span) (ts : List Token) → assignment_of m ≡ Some o → (Ends conditional (mark m a ∷ ts)) × (assignment_at (mark m a ∷ ts) ≡ Some o)
unfolding tail_at begins op_at assignment_at
assign_ends m o a ts is = let c = assign_continues m o is in (((c.1, c.2), (λ j lt. ap (of_level j) c.0), c.3), is)

one_assign : (below : Rank → List Token → Answer Expr) (d : ℕ) (o : Option BinOp) (e : Expr) (t : Token) (ts : List Token) → is_unary e ≡ true → expr_depth e ≤ d
    → assign_by below d (Some o) e (t ∷ ts) ≡ (below assignment ts >>= λ r. done (joins (Assign o e r.0) (span_of e).start (span_of r.0).end) r.1)
unfolding assign_by rest
one_assign below d o e t ts un fits = rw (un, le-leb (expr_depth e) d fits) refl

pub reads_assigned : (o : Option BinOp) (l r : Expr) (s t : List Token) (m : Mark) (a : Span) → assignment_of m ≡ Some o → Reads (binary zero) l s → is_unary l ≡ true → 0 < length s → span_of l ≡ runs s
    → Reads assignment r t → 0 < length t → span_of r ≡ runs t
    → Reads assignment (Node (Assign o l r) (runs (s ++ mark m a ∷ t))) (s ++ mark m a ∷ t)
unfolding read assign_at cond_at
reads_assigned o l r s t m a is hl un n₁ e₁ hr n₂ e₂ zero fits after ends' = absurd (omega arith)
reads_assigned o l r s t m a is hl un n₁ e₁ hr n₂ e₂ (suc d) fits after ends' =
    let c = mark m a in
    let fits_l : expr_depth l ≤ d = omega arith in
    let fits_r : expr_depth r ≤ d = omega arith in
    let shape : (s ++ c ∷ t) ++ after ≡ s ++ (c ∷ (t ++ after)) = append_assoc s (c ∷ t) after in
    let w = assign_ends m o a (t ++ after) is in
    let left : read (suc d) (binary loosest) (s ++ (c ∷ (t ++ after))) ≡ Ok (l, c ∷ (t ++ after)) = loosen loosest d (s ++ (c ∷ (t ++ after))) l (c ∷ (t ++ after)) (hl (suc d) (omega arith) (c ∷ (t ++ after)) (w.0.0, λ j lt. absurd (omega arith))) w.0.1 in
    rw (
      shape,
      left,
      no_question (read d) d l (c ∷ (t ++ after)) w.0.2,
      w.1,
      one_assign (read d) d o l c (t ++ after) un fits_l,
      hr d fits_r after ends',
      joins_runs (Assign o l r) (span_of l).start (span_of r).end (s ++ c ∷ t) (starts (span_of l) s (c ∷ t) e₁ n₁) (ends (span_of r) t e₂ ∙ sym (last_behind s c t n₂)),
    ) refl
