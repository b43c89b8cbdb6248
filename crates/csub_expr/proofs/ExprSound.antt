-- What is read is spelled so, within the depth.
use Rattle.std.proofs.Common.{◌≡◌, ℕ, zero, suc, ◌<◌, ◌≤◌, List, [], ◌∷◌, ◌++◌, length, Option, Some, None, Ok, Err, true, cond, refl, sym, ap, subst, ◌∙◌, arith, append_assoc, length-append, inl, inr}
use Rattle.std.specs.Prelude.{nat_le, ◌&&◌}
use Rattle.std.proofs.lemmas.Bool.{leb-true}
use Rattle.csub_text.specs.declared.span.Span.{Span}
use Rattle.csub_text.specs.declared.operator.BinOp.{BinOp}
use Rattle.csub_lex.specs.declared.token.Mark.{Mark}
use Rattle.csub_lex.specs.declared.token.Mark.TheVariants as marks
use Rattle.csub_lex.specs.declared.token.TokenKind.{TokenKind}
use Rattle.csub_lex.specs.declared.token.TokenKind.TheVariants as kinds
use Rattle.csub_lex.specs.declared.token.Token.{Token}
use Rattle.csub_tree.specs.declared.name.Name.{Name}
use Rattle.csub_tree.specs.declared.name.TypeName.{TypeName}
use Rattle.csub_tree.specs.Expressions.{Expr, Exprs, Node, Number, Char, Text, Named, Paren, Cast, Step, Choose, Assign, Call, Index, Member, NoExprs, exprs_of, span_of}
use Rattle.csub_tree.specs.Depth.{expr_depth, exprs_depth}
use Rattle.csub_tree.specs.Tokens.{mark, id, runs}
use Rattle.csub_tree.specs.Lists.{Separated, last_one, before}
use Rattle.csub_tree.specs.SpellsExpressions.{Rank, assignment, conditional, binary, postfix, primary, SpellsExpr, SpellsArgs, SpellsSome, no_assignment, assigned, no_choice, choice, tighter, operated, prefixed, cast, no_prefix, no_postfix, indexed, member, stepped, named, called, number, character, string, enclosed, no_args, some_args, last_arg, next_arg, Operator, joined, Prefix, applied, operator_of, level_of, assignment_of, prefix_of, postfix_of, loosest}
use Rattle.csub_expr.specs.declared.operator.Tail.{Tail}
use Rattle.csub_expr.specs.declared.operator.Tail.TheVariants as tails
use Rattle.csub_expr.specs.Looks.{begins, rest, head_span, op_at, assignment_at, prefix_at, tail_at, begins_number}
use Rattle.csub_expr.specs.Answers.{Answer, ◌>>=◌, done, expect, expect_name}
use Rattle.csub_expr.specs.ListDescent.{separated, never}
use Rattle.csub_expr.specs.ExprDescent.{read, joins, is_unary, number_at, paren_at, cast_at, call_at, name_at, word_of, word_at, tail_of, behind_by, behind, open_at, unary_by, unary_at, more_by, more, chain_at, choice_at, cond_at, assign_by, assign_at}
use Rattle.csub_expr.proofs.LawsTokens.{last_cons, nonempty_append, last_behind, last_token}
use Rattle.csub_expr.proofs.Places.{joins_runs, starts, ends}
use Rattle.csub_expr.proofs.LawsAnswers.{bind_ok, ok_value, ok_rest, chosen, and_true}
use Rattle.csub_expr.proofs.Taken.{begins_is, expect_is, expect_name_is, op_is, assignment_is, prefix_is, tail_is, Means, tail_means, number_is, TookNumber}
use Rattle.csub_expr.proofs.LawsLists.{separated_sound}
use Rattle.csub_expr.proofs.Spelled.{joined_depth, applied_depth, nonempty, spanned}

pub record Took (rank : Rank) (d : ℕ) (ts : List Token) (e : Expr) (r : List Token) : Type 0 where
  pub s : List Token
  pub parts : ts ≡ s ++ r
  pub spelled : SpellsExpr rank e s
  pub fits : expr_depth e ≤ d

abbrev pub Sound : Rank → ℕ → (List Token → Answer Expr) → Type 0
Sound rank d p = (ts : List Token) (e : Expr) (r : List Token) → p ts ≡ Ok (e, r) → Took rank d ts e r

-- the same, at the parts of what was answered, from another node, and from another list
took_done : (rank : Rank) (d : ℕ) (ts : List Token) (e x : Expr) (r y : List Token) → Took rank d ts x y → done x y ≡ done e r → Took rank d ts e r
took_done rank d ts e x r y h eq = subst (λ (v : Expr). Took rank d ts v r) (ok_value x e y r eq) (subst (λ (v : List Token). Took rank d ts x v) (ok_rest x e y r eq) h)

made : (rank : Rank) (d : ℕ) (ts : List Token) (e x : Expr) (r : List Token) → x ≡ e → Took rank d ts e r → Took rank d ts x r
made rank d ts e x r eq h = subst (λ (v : Expr). Took rank d ts v r) (sym eq) h

at_head : (rank : Rank) (d : ℕ) (ts us : List Token) (e : Expr) (r : List Token) → ts ≡ us → Took rank d us e r → Took rank d ts e r
at_head rank d ts us e r eq h = subst (λ (v : List Token). Took rank d v e r) (sym eq) h

-- a left part, a token and a right part
pub parts_both : (s t : List Token) (c : Token) (ts u r : List Token) → ts ≡ s ++ c ∷ u → u ≡ t ++ r → ts ≡ (s ++ c ∷ t) ++ r
parts_both s t c ts u r p q = p ∙ ap (λ (x : List Token). s ++ c ∷ x) q ∙ sym (append_assoc s (c ∷ t) r)

make_prefixed : (d : ℕ) (o : Prefix) (m : Mark) (a : Span) (ts : List Token) (e : Expr) (r : List Token) → prefix_of m ≡ Some o → Took (binary 0) d ts e r
    → Took (binary 0) (suc d) (mark m a ∷ ts) (joins (applied o e) a.start (span_of e).end) r
make_prefixed d o m a ts e r is h = made (binary 0) (suc d) (mark m a ∷ ts) (Node (applied o e) (runs (mark m a ∷ h.s))) (joins (applied o e) a.start (span_of e).end) r
    (joins_runs (applied o e) a.start (span_of e).end (mark m a ∷ h.s) refl (ends (span_of e) h.s (spanned h.spelled) ∙ sym (last_cons (mark m a) h.s (nonempty h.spelled))))
    (record { s = mark m a ∷ h.s; parts = ap (λ (x : List Token). mark m a ∷ x) h.parts; spelled = prefixed m a is h.spelled; fits = omega (arith, h.fits, applied_depth o e) })

make_cast : (d : ℕ) (a b : Span) (ts us : List Token) (n : TypeName) (e : Expr) (r : List Token) → TookNumber ts n (mark marks.CloseParen b ∷ us) → Took (binary 0) d us e r
    → Took (binary 0) (suc d) (mark marks.OpenParen a ∷ ts) (joins (Cast n e) a.start (span_of e).end) r
make_cast d a b ts us n e r w h =
    let o = mark marks.OpenParen a in
    let c = mark marks.CloseParen b in
    made (binary 0) (suc d) (o ∷ ts) (Node (Cast n e) (runs (o ∷ (w.s ++ c ∷ h.s)))) (joins (Cast n e) a.start (span_of e).end) r
    (joins_runs (Cast n e) a.start (span_of e).end (o ∷ (w.s ++ c ∷ h.s)) refl (ends (span_of e) h.s (spanned h.spelled) ∙ sym (last_behind (o ∷ w.s) c h.s (nonempty h.spelled))))
    (record { s = o ∷ (w.s ++ c ∷ h.s); parts = ap (λ (x : List Token). o ∷ x) (parts_both w.s h.s c ts us r w.parts h.parts); spelled = cast a b w.spelled h.spelled; fits = omega (arith, h.fits) })

make_paren : (d : ℕ) (a b : Span) (ts : List Token) (e : Expr) (r : List Token) → Took assignment d ts e (mark marks.CloseParen b ∷ r)
    → Took primary (suc d) (mark marks.OpenParen a ∷ ts) (joins (Paren e) a.start b.end) r
make_paren d a b ts e r h =
    let o = mark marks.OpenParen a in
    let c = mark marks.CloseParen b in
    made primary (suc d) (o ∷ ts) (Node (Paren e) (runs (o ∷ (h.s ++ c ∷ [])))) (joins (Paren e) a.start b.end) r
    (joins_runs (Paren e) a.start b.end (o ∷ (h.s ++ c ∷ [])) refl (sym (last_token (o ∷ h.s) c)))
    (record { s = o ∷ (h.s ++ c ∷ []); parts = ap (λ (x : List Token). o ∷ x) (h.parts ∙ sym (append_assoc h.s (c ∷ []) r)); spelled = enclosed a b h.spelled; fits = omega (arith, h.fits) })

make_joined : (d k : ℕ) (o : Operator) (m : Mark) (a : Span) (ts u : List Token) (x y : Expr) (r : List Token) → operator_of m ≡ Some o → level_of o ≡ k → Took (binary (suc k)) (suc d) ts x (mark m a ∷ u) → expr_depth x ≤ d → Took (binary k) d u y r
    → Took (binary (suc k)) (suc d) ts (joins (joined o x y) (span_of x).start (span_of y).end) r
make_joined d k o m a ts u x y r is level hx fits hy =
    let t = mark m a in
    made (binary (suc k)) (suc d) ts (Node (joined o x y) (runs (hx.s ++ t ∷ hy.s))) (joins (joined o x y) (span_of x).start (span_of y).end) r
    (joins_runs (joined o x y) (span_of x).start (span_of y).end (hx.s ++ t ∷ hy.s) (starts (span_of x) hx.s (t ∷ hy.s) (spanned hx.spelled) (nonempty hx.spelled)) (ends (span_of y) hy.s (spanned hy.spelled) ∙ sym (last_behind hx.s t hy.s (nonempty hy.spelled))))
    (record { s = hx.s ++ t ∷ hy.s; parts = parts_both hx.s hy.s t ts u r hx.parts hy.parts; spelled = operated m a is level hx.spelled hy.spelled; fits = omega (arith, fits, hy.fits, joined_depth o x y) })

make_assign : (d : ℕ) (o : Option BinOp) (m : Mark) (a : Span) (ts u : List Token) (x y : Expr) (r : List Token) → assignment_of m ≡ Some o → Took (binary 0) (suc d) ts x (mark m a ∷ u) → expr_depth x ≤ d → Took assignment d u y r
    → Took assignment (suc d) ts (joins (Assign o x y) (span_of x).start (span_of y).end) r
make_assign d o m a ts u x y r is hx fits hy =
    let t = mark m a in
    made assignment (suc d) ts (Node (Assign o x y) (runs (hx.s ++ t ∷ hy.s))) (joins (Assign o x y) (span_of x).start (span_of y).end) r
    (joins_runs (Assign o x y) (span_of x).start (span_of y).end (hx.s ++ t ∷ hy.s) (starts (span_of x) hx.s (t ∷ hy.s) (spanned hx.spelled) (nonempty hx.spelled)) (ends (span_of y) hy.s (spanned hy.spelled) ∙ sym (last_behind hx.s t hy.s (nonempty hy.spelled))))
    (record { s = hx.s ++ t ∷ hy.s; parts = parts_both hx.s hy.s t ts u r hx.parts hy.parts; spelled = assigned m a is hx.spelled hy.spelled; fits = omega (arith, fits, hy.fits) })

make_choice : (d : ℕ) (a b : Span) (ts u v : List Token) (e x y : Expr) (r : List Token) → Took (binary loosest) (suc d) ts e (mark marks.Question a ∷ u) → expr_depth e ≤ d → Took assignment d u x (mark marks.Colon b ∷ v) → Took conditional d v y r
    → Took conditional (suc d) ts (joins (Choose e x y) (span_of e).start (span_of y).end) r
make_choice d a b ts u v e x y r he fits hx hy =
    let q = mark marks.Question a in
    let c = mark marks.Colon b in
    let behind_q : List Token = hx.s ++ c ∷ hy.s in
    made conditional (suc d) ts (Node (Choose e x y) (runs (he.s ++ q ∷ behind_q))) (joins (Choose e x y) (span_of e).start (span_of y).end) r
    (joins_runs (Choose e x y) (span_of e).start (span_of y).end (he.s ++ q ∷ behind_q) (starts (span_of e) he.s (q ∷ behind_q) (spanned he.spelled) (nonempty he.spelled))
    (ends (span_of y) hy.s (spanned hy.spelled) ∙ sym (last_behind he.s q behind_q (nonempty_append hx.s c hy.s) ∙ last_behind hx.s c hy.s (nonempty hy.spelled))))
    (record { s = he.s ++ q ∷ behind_q; parts = parts_both he.s behind_q q ts u r he.parts (parts_both hx.s hy.s c u v r hx.parts hy.parts); spelled = choice a b he.spelled hx.spelled hy.spelled; fits = omega (arith, fits, hx.fits, hy.fits) })

make_index : (d : ℕ) (a b : Span) (ts u : List Token) (e i : Expr) (r : List Token) → Took postfix (suc d) ts e (mark marks.OpenBracket a ∷ u) → expr_depth e ≤ d → Took assignment d u i (mark marks.CloseBracket b ∷ r)
    → Took postfix (suc d) ts (joins (Index e i) (span_of e).start b.end) r
make_index d a b ts u e i r he fits hi =
    let o = mark marks.OpenBracket a in
    let c = mark marks.CloseBracket b in
    let behind_o : List Token = hi.s ++ c ∷ [] in
    made postfix (suc d) ts (Node (Index e i) (runs (he.s ++ o ∷ behind_o))) (joins (Index e i) (span_of e).start b.end) r
    (joins_runs (Index e i) (span_of e).start b.end (he.s ++ o ∷ behind_o) (starts (span_of e) he.s (o ∷ behind_o) (spanned he.spelled) (nonempty he.spelled)) (sym (last_behind he.s o behind_o (nonempty_append hi.s c []) ∙ last_token hi.s c)))
    (record { s = he.s ++ o ∷ behind_o; parts = parts_both he.s behind_o o ts u r he.parts (hi.parts ∙ sym (append_assoc hi.s (c ∷ []) r)); spelled = indexed a b he.spelled hi.spelled; fits = omega (arith, fits, hi.fits) })

make_member : (d : ℕ) (a : Span) (n : Name) (ts : List Token) (e : Expr) (r : List Token) → Took postfix (suc d) ts e (mark marks.Dot a ∷ id n ∷ r) → expr_depth e ≤ d
    → Took postfix (suc d) ts (joins (Member e n) (span_of e).start n.span.end) r
make_member d a n ts e r he fits =
    let o = mark marks.Dot a in
    made postfix (suc d) ts (Node (Member e n) (runs (he.s ++ o ∷ id n ∷ []))) (joins (Member e n) (span_of e).start n.span.end) r
    (joins_runs (Member e n) (span_of e).start n.span.end (he.s ++ o ∷ id n ∷ []) (starts (span_of e) he.s (o ∷ id n ∷ []) (spanned he.spelled) (nonempty he.spelled)) (sym (last_behind he.s o (id n ∷ []) (omega arith))))
    (record { s = he.s ++ o ∷ id n ∷ []; parts = he.parts ∙ sym (append_assoc he.s (o ∷ id n ∷ []) r); spelled = member a n he.spelled; fits = omega (arith, fits) })

make_step : (d : ℕ) (o : _) (m : Mark) (a : Span) (ts : List Token) (e : Expr) (r : List Token) → postfix_of m ≡ Some o → Took postfix (suc d) ts e (mark m a ∷ r) → expr_depth e ≤ d
    → Took postfix (suc d) ts (joins (Step o e) (span_of e).start a.end) r
make_step d o m a ts e r is he fits =
    let t = mark m a in
    made postfix (suc d) ts (Node (Step o e) (runs (he.s ++ t ∷ []))) (joins (Step o e) (span_of e).start a.end) r
    (joins_runs (Step o e) (span_of e).start a.end (he.s ++ t ∷ []) (starts (span_of e) he.s (t ∷ []) (spanned he.spelled) (nonempty he.spelled)) (sym (last_token he.s t)))
    (record { s = he.s ++ t ∷ []; parts = he.parts ∙ sym (append_assoc he.s (t ∷ []) r); spelled = stepped m a is he.spelled; fits = omega (arith, fits) })

-- arguments
abbrev pub Fitted : ℕ → Expr → List Token → Type 0
Fitted d x s = (expr_depth x ≤ d) × SpellsExpr assignment x s

fitted_some : (d : ℕ) {xs : List Expr} {s : List Token} → Separated Expr (Fitted d) xs s → (exprs_depth (exprs_of xs) ≤ d) × SpellsSome (exprs_of xs) s
fitted_some d (last_one h) = (omega (arith, h.0), last_arg h.1)
fitted_some d (before a h hs) = let t = fitted_some d hs in (omega (arith, h.0, t.0), next_arg a h.1 t.1)

make_call : (d : ℕ) (n : Name) (a b : Span) (es : Exprs) (s ts r : List Token) → SpellsArgs es s → exprs_depth es ≤ d → ts ≡ s ++ mark marks.CloseParen b ∷ r
    → Took primary (suc d) (id n ∷ mark marks.OpenParen a ∷ ts) (joins (Call n es) n.span.start b.end) r
make_call d n a b es s ts r h fits parts =
    let o = mark marks.OpenParen a in
    let c = mark marks.CloseParen b in
    made primary (suc d) (id n ∷ o ∷ ts) (Node (Call n es) (runs (id n ∷ o ∷ (s ++ c ∷ [])))) (joins (Call n es) n.span.start b.end) r
    (joins_runs (Call n es) n.span.start b.end (id n ∷ o ∷ (s ++ c ∷ [])) refl (sym (last_token (id n ∷ o ∷ s) c)))
    (record { s = id n ∷ o ∷ (s ++ c ∷ []); parts = ap (λ (x : List Token). id n ∷ o ∷ x) (parts ∙ sym (append_assoc s (c ∷ []) r)); spelled = called n a b h; fits = omega (arith, fits) })

-- a chain, or a choice, whose node is unary is a unary expression
unary_chain : {e : Expr} {s : List Token} → (k : ℕ) → SpellsExpr (binary k) e s → is_unary e ≡ true → SpellsExpr (binary 0) e s
unary_chain zero h un = h
unary_chain (suc k) (tighter h) un = unary_chain k h un
unary_chain (suc k) (operated {o = Operator.Plain o} m a is level l r) un = absurd cc
unary_chain (suc k) (operated {o = Operator.Both} m a is level l r) un = absurd cc
unary_chain (suc k) (operated {o = Operator.Either} m a is level l r) un = absurd cc

unary_cond : {e : Expr} {s : List Token} → SpellsExpr conditional e s → is_unary e ≡ true → SpellsExpr (binary 0) e s
unary_cond (no_choice h) un = unary_chain loosest h un
unary_cond (choice a b e x y) un = absurd cc

module _ (below : Rank → List Token → Answer Expr) (d : ℕ) (ih : (rank : Rank) → Sound rank d (below rank)) where
  paren_sound : (a : Span) (ts : List Token) (e : Expr) (r : List Token) → paren_at below d a.start ts ≡ Ok (e, r) → Took primary (suc d) (mark marks.OpenParen a ∷ ts) e r
  unfolding paren_at
  paren_sound a ts e r h =
      let i = bind_ok (below assignment ts) (λ x. expect marks.CloseParen x.1 >>= λ close. done (joins (Paren x.0) a.start close.0.end) close.1) (e, r) h in
      let c = bind_ok (expect marks.CloseParen i.0.1) (λ close. done (joins (Paren i.0.0) a.start close.0.end) close.1) (e, r) i.2 in
      let inner : Took assignment d ts i.0.0 (mark marks.CloseParen c.0.0 ∷ c.0.1) = subst (λ (v : List Token). Took assignment d ts i.0.0 v) (expect_is marks.CloseParen i.0.1 c.0.0 c.0.1 c.1) (ih assignment ts i.0.0 i.0.1 i.1) in
      took_done primary (suc d) (mark marks.OpenParen a ∷ ts) e (joins (Paren i.0.0) a.start c.0.0.end) r c.0.1 (make_paren d a c.0.0 ts i.0.0 c.0.1 inner) c.2

  cast_sound : (a : Span) (ts : List Token) (e : Expr) (r : List Token) → cast_at below d a.start ts ≡ Ok (e, r) → Took (binary 0) (suc d) (mark marks.OpenParen a ∷ ts) e r
  unfolding cast_at
  cast_sound a ts e r h =
      let n = bind_ok (number_at ts) (λ n. expect marks.CloseParen n.1 >>= λ close. below (binary 0) close.1 >>= λ x. done (joins (Cast n.0 x.0) a.start (span_of x.0).end) x.1) (e, r) h in
      let c = bind_ok (expect marks.CloseParen n.0.1) (λ close. below (binary 0) close.1 >>= λ x. done (joins (Cast n.0.0 x.0) a.start (span_of x.0).end) x.1) (e, r) n.2 in
      let i = bind_ok (below (binary 0) c.0.1) (λ x. done (joins (Cast n.0.0 x.0) a.start (span_of x.0).end) x.1) (e, r) c.2 in
      let w : TookNumber ts n.0.0 (mark marks.CloseParen c.0.0 ∷ c.0.1) = subst (λ (v : List Token). TookNumber ts n.0.0 v) (expect_is marks.CloseParen n.0.1 c.0.0 c.0.1 c.1) (number_is ts n.0.0 n.0.1 n.1) in
      took_done (binary 0) (suc d) (mark marks.OpenParen a ∷ ts) e (joins (Cast n.0.0 i.0.0) a.start (span_of i.0.0).end) r i.0.1 (make_cast d a c.0.0 ts c.0.1 n.0.0 i.0.0 i.0.1 w (ih (binary 0) c.0.1 i.0.0 i.0.1 i.1)) i.2

  item_sound : (ts : List Token) (x : Expr) (r : List Token) → below assignment ts ≡ Ok (x, r) → (s : List Token) × (ts ≡ s ++ r) × Fitted d x s
  item_sound ts x r h = let t = ih assignment ts x r h in (t.s, t.parts, (t.fits, t.spelled))

  call_sound : (n : Name) (a : Span) (ts : List Token) (e : Expr) (r : List Token) → call_at below d n ts ≡ Ok (e, r) → Took primary (suc d) (id n ∷ mark marks.OpenParen a ∷ ts) e r
  unfolding call_at
  call_sound n a ts e r h =
      elim (chosen (begins marks.CloseParen ts) (done (joins (Call n NoExprs) n.span.start (head_span ts).end) (rest ts)) (separated (below assignment) never (suc (length ts)) ts >>= λ es. expect marks.CloseParen es.1 >>= λ close. done (joins (Call n (exprs_of es.0)) n.span.start close.0.end) close.1) (Ok (e, r)) h) [
        | inl p ↦ took_done primary (suc d) (id n ∷ mark marks.OpenParen a ∷ ts) e (joins (Call n NoExprs) n.span.start (head_span ts).end) r (rest ts) (make_call d n a (head_span ts) NoExprs [] ts (rest ts) no_args (omega arith) (begins_is marks.CloseParen ts p.0)) p.1
        | inr p ↦
            let es = bind_ok (separated (below assignment) never (suc (length ts)) ts) (λ es. expect marks.CloseParen es.1 >>= λ close. done (joins (Call n (exprs_of es.0)) n.span.start close.0.end) close.1) (e, r) p.1 in
            let c = bind_ok (expect marks.CloseParen es.0.1) (λ close. done (joins (Call n (exprs_of es.0.0)) n.span.start close.0.end) close.1) (e, r) es.2 in
            let t = separated_sound (below assignment) never (Fitted d) item_sound (suc (length ts)) ts es.0.0 es.0.1 es.1 in
            let none : t.u ≡ [] = elim t.tail [
              | inl q ↦ q
              | inr q ↦ absurd (cc q)
            ] in
            let all : ts ≡ t.s ++ mark marks.CloseParen c.0.0 ∷ c.0.1 = t.parts ∙ ap (λ (u : List Token). t.s ++ (u ++ es.0.1)) none ∙ ap (λ (u : List Token). t.s ++ u) (expect_is marks.CloseParen es.0.1 c.0.0 c.0.1 c.1) in
            let f = fitted_some d t.spelled in
            took_done primary (suc d) (id n ∷ mark marks.OpenParen a ∷ ts) e (joins (Call n (exprs_of es.0.0)) n.span.start c.0.0.end) r c.0.1 (make_call d n a c.0.0 (exprs_of es.0.0) t.s ts c.0.1 (some_args f.1) f.0 all) c.2
      ]

  name_sound : (n : Name) (ts : List Token) (e : Expr) (r : List Token) → name_at below d n ts ≡ Ok (e, r) → Took primary (suc d) (id n ∷ ts) e r
  unfolding name_at
  name_sound n ts e r h = elim (chosen (begins marks.OpenParen ts) (call_at below d n (rest ts)) (done (Node (Named n) n.span) ts) (Ok (e, r)) h) [
    | inl p ↦ at_head primary (suc d) (id n ∷ ts) (id n ∷ mark marks.OpenParen (head_span ts) ∷ rest ts) e r (ap (λ (x : List Token). id n ∷ x) (begins_is marks.OpenParen ts p.0)) (call_sound n (head_span ts) (rest ts) e r p.1)
    | inr p ↦ took_done primary (suc d) (id n ∷ ts) e (Node (Named n) n.span) r ts (record { s = id n ∷ []; parts = refl; spelled = named n; fits = omega arith }) p.1
  ]

  word_sound : Sound primary (suc d) (word_at below d)
  unfolding word_at rest head_span
  word_sound [] e r h = absurd cc
  word_sound (t ∷ ts) e r h = go t.kind refl h
    where
      as_kind : (k : TokenKind) → t.kind ≡ k → t ∷ ts ≡ record { kind = k; span = t.span } ∷ ts
      as_kind k eq = ap (λ (x : TokenKind). record { kind = x; span = t.span } ∷ ts) eq

      go : (k : TokenKind) → t.kind ≡ k → word_of below d k (t ∷ ts) ≡ Ok (e, r) → Took primary (suc d) (t ∷ ts) e r
      go (kinds.Number n u) k eq = took_done primary (suc d) (t ∷ ts) e (Node (Number n u) t.span) r ts (record { s = record { kind = kinds.Number n u; span = t.span } ∷ []; parts = as_kind (kinds.Number n u) k; spelled = number n u t.span; fits = omega arith }) eq
      go (kinds.Char b) k eq = took_done primary (suc d) (t ∷ ts) e (Node (Char b) t.span) r ts (record { s = record { kind = kinds.Char b; span = t.span } ∷ []; parts = as_kind (kinds.Char b) k; spelled = character b t.span; fits = omega arith }) eq
      go (kinds.Text b) k eq = took_done primary (suc d) (t ∷ ts) e (Node (Text b) t.span) r ts (record { s = record { kind = kinds.Text b; span = t.span } ∷ []; parts = as_kind (kinds.Text b) k; spelled = string b t.span; fits = omega arith }) eq
      go (kinds.Name n) k eq = at_head primary (suc d) (t ∷ ts) (id (record { text = n; span = t.span }) ∷ ts) e r (as_kind (kinds.Name n) k) (name_sound (record { text = n; span = t.span }) ts e r eq)
      go (kinds.Mark m) k eq = absurd cc
      go (kinds.Key m) k eq = absurd cc

  tail_sound : (t : Tail) (m : Mark) (a : Span) (ts u : List Token) (e : Expr) → Means m t → Took postfix (suc d) ts e (mark m a ∷ u) → expr_depth e ≤ d → (x : Expr) (r : List Token) → tail_of below d t e a u ≡ Ok (x, r) → Took postfix (suc d) ts x r
  tail_sound tails.Index m a ts u e is took fits x r h =
      let i = bind_ok (below assignment u) (λ i. expect marks.CloseBracket i.1 >>= λ close. done (joins (Index e i.0) (span_of e).start close.0.end) close.1) (x, r) h in
      let c = bind_ok (expect marks.CloseBracket i.0.1) (λ close. done (joins (Index e i.0.0) (span_of e).start close.0.end) close.1) (x, r) i.2 in
      let left : Took postfix (suc d) ts e (mark marks.OpenBracket a ∷ u) = subst (λ (v : Mark). Took postfix (suc d) ts e (mark v a ∷ u)) is took in
      let inner : Took assignment d u i.0.0 (mark marks.CloseBracket c.0.0 ∷ c.0.1) = subst (λ (v : List Token). Took assignment d u i.0.0 v) (expect_is marks.CloseBracket i.0.1 c.0.0 c.0.1 c.1) (ih assignment u i.0.0 i.0.1 i.1) in
      took_done postfix (suc d) ts x (joins (Index e i.0.0) (span_of e).start c.0.0.end) r c.0.1 (make_index d a c.0.0 ts u e i.0.0 c.0.1 left fits inner) c.2
  tail_sound tails.Member m a ts u e is took fits x r h =
      let n = bind_ok (expect_name u) (λ n. done (joins (Member e n.0) (span_of e).start n.0.span.end) n.1) (x, r) h in
      let left : Took postfix (suc d) ts e (mark marks.Dot a ∷ id n.0.0 ∷ n.0.1) = subst (λ (v : Mark). Took postfix (suc d) ts e (mark v a ∷ id n.0.0 ∷ n.0.1)) is (subst (λ (v : List Token). Took postfix (suc d) ts e (mark m a ∷ v)) (expect_name_is u n.0.0 n.0.1 n.1) took) in
      took_done postfix (suc d) ts x (joins (Member e n.0.0) (span_of e).start n.0.0.span.end) r n.0.1 (make_member d a n.0.0 ts e n.0.1 left fits) n.2
  tail_sound (tails.Step o) m a ts u e is took fits x r h = took_done postfix (suc d) ts x (joins (Step o e) (span_of e).start a.end) r u (make_step d o m a ts e u is took fits) h

  behind_sound : (f : ℕ) (ts : List Token) (e : Expr) (us : List Token) → Took postfix (suc d) ts e us → (x : Expr) (r : List Token) → behind below d f e us ≡ Ok (x, r) → Took postfix (suc d) ts x r
  unfolding behind behind_by
  behind_sound zero ts e us took x r h = took_done postfix (suc d) ts x e r us took h
  behind_sound (suc f) ts e us took x r h = go (λ y vs w. behind_sound f ts y vs w x r) (tail_at us) refl h
    where
      go : ((y : Expr) (vs : List Token) → Took postfix (suc d) ts y vs → behind below d f y vs ≡ Ok (x, r) → Took postfix (suc d) ts x r) → (o : Option Tail) → tail_at us ≡ o → behind_by below d (behind below d f) o e us ≡ Ok (x, r) → Took postfix (suc d) ts x r
      go again None is eq = took_done postfix (suc d) ts x e r us took eq
      go again (Some t) is eq = elim (chosen (nat_le (expr_depth e) d) (tail_of below d t e (head_span us) (rest us) >>= λ y. behind below d f y.0 y.1) (done e us) (Ok (x, r)) eq) [
        | inl p ↦
            let w = tail_is us t is in
            let y = bind_ok (tail_of below d t e (head_span us) (rest us)) (λ y. behind below d f y.0 y.1) (x, r) p.1 in
            again y.0.0 y.0.1 (tail_sound t w.0 (head_span us) ts (rest us) e (tail_means w.0 t w.2) (subst (λ (v : List Token). Took postfix (suc d) ts e v) w.1 took) (leb-true (expr_depth e) d p.0) y.0.0 y.0.1 y.1) y.2
        | inr p ↦ took_done postfix (suc d) ts x e r us took p.1
      ]

  -- a primary expression and its tails
  tails_sound : (ts : List Token) (e : Expr) (us : List Token) → Took primary (suc d) ts e us → (x : Expr) (r : List Token) → behind below d (suc d) e us ≡ Ok (x, r) → Took (binary 0) (suc d) ts x r
  tails_sound ts e us took x r h =
      let t = behind_sound (suc d) ts e us (record { s = took.s; parts = took.parts; spelled = no_postfix took.spelled; fits = took.fits }) x r h in
      record { s = t.s; parts = t.parts; spelled = no_prefix t.spelled; fits = t.fits }

  open_sound : (a : Span) (ts : List Token) (e : Expr) (r : List Token) → open_at below d a.start ts ≡ Ok (e, r) → Took (binary 0) (suc d) (mark marks.OpenParen a ∷ ts) e r
  unfolding open_at
  open_sound a ts e r h = elim (chosen (begins_number ts) (cast_at below d a.start ts) (paren_at below d a.start ts >>= λ x. behind below d (suc d) x.0 x.1) (Ok (e, r)) h) [
    | inl p ↦ cast_sound a ts e r p.1
    | inr p ↦
        let i = bind_ok (paren_at below d a.start ts) (λ x. behind below d (suc d) x.0 x.1) (e, r) p.1 in
        tails_sound (mark marks.OpenParen a ∷ ts) i.0.0 i.0.1 (paren_sound a ts i.0.0 i.0.1 i.1) e r i.2
  ]

  unary_by_sound : (o : Option Prefix) (ts : List Token) → prefix_at ts ≡ o → (e : Expr) (r : List Token) → unary_by below d o ts ≡ Ok (e, r) → Took (binary 0) (suc d) ts e r
  unfolding unary_by
  unary_by_sound (Some o) ts is e r h = elim (chosen (nat_le 1 d) (below (binary 0) (rest ts) >>= λ x. done (joins (applied o x.0) (head_span ts).start (span_of x.0).end) x.1) (Err (length ts)) (Ok (e, r)) h) [
    | inl p ↦
        let w = prefix_is ts o is in
        let i = bind_ok (below (binary 0) (rest ts)) (λ x. done (joins (applied o x.0) (head_span ts).start (span_of x.0).end) x.1) (e, r) p.1 in
        at_head (binary 0) (suc d) ts (mark w.0 (head_span ts) ∷ rest ts) e r w.1
        (took_done (binary 0) (suc d) (mark w.0 (head_span ts) ∷ rest ts) e (joins (applied o i.0.0) (head_span ts).start (span_of i.0.0).end) r i.0.1 (make_prefixed d o w.0 (head_span ts) (rest ts) i.0.0 i.0.1 w.2 (ih (binary 0) (rest ts) i.0.0 i.0.1 i.1)) i.2)
    | inr p ↦ absurd (cc p.1)
  ]
  unary_by_sound None ts is e r h = elim (chosen (begins marks.OpenParen ts) (cond (nat_le 1 d) (open_at below d (head_span ts).start (rest ts)) (Err (length ts))) (word_at below d ts >>= λ x. behind below d (suc d) x.0 x.1) (Ok (e, r)) h) [
    | inl p ↦ elim (chosen (nat_le 1 d) (open_at below d (head_span ts).start (rest ts)) (Err (length ts)) (Ok (e, r)) p.1) [
      | inl q ↦ at_head (binary 0) (suc d) ts (mark marks.OpenParen (head_span ts) ∷ rest ts) e r (begins_is marks.OpenParen ts p.0) (open_sound (head_span ts) (rest ts) e r q.1)
      | inr q ↦ absurd (cc q.1)
    ]
    | inr p ↦
        let i = bind_ok (word_at below d ts) (λ x. behind below d (suc d) x.0 x.1) (e, r) p.1 in
        tails_sound ts i.0.0 i.0.1 (word_sound ts i.0.0 i.0.1 i.1) e r i.2
  ]

  unary_sound : Sound (binary 0) (suc d) (unary_at below d)
  unfolding unary_at
  unary_sound ts e r h = unary_by_sound (prefix_at ts) ts refl e r h

  more_sound : (k f : ℕ) (ts : List Token) (left : Expr) (us : List Token) → Took (binary (suc k)) (suc d) ts left us → (e : Expr) (r : List Token) → more below d k f left us ≡ Ok (e, r) → Took (binary (suc k)) (suc d) ts e r
  unfolding more more_by
  more_sound k zero ts left us took e r h = took_done (binary (suc k)) (suc d) ts e left r us took h
  more_sound k (suc f) ts left us took e r h = go (λ y vs w. more_sound k f ts y vs w e r) (op_at k us) refl h
    where
      go : ((y : Expr) (vs : List Token) → Took (binary (suc k)) (suc d) ts y vs → more below d k f y vs ≡ Ok (e, r) → Took (binary (suc k)) (suc d) ts e r) → (o : Option Operator) → op_at k us ≡ o → more_by below d (more below d k f) o k left us ≡ Ok (e, r) → Took (binary (suc k)) (suc d) ts e r
      go again None is eq = took_done (binary (suc k)) (suc d) ts e left r us took eq
      go again (Some o) is eq = elim (chosen (nat_le (expr_depth left) d) (below (binary k) (rest us) >>= λ right. more below d k f (joins (joined o left right.0) (span_of left).start (span_of right.0).end) right.1) (done left us) (Ok (e, r)) eq) [
        | inl p ↦
            let w = op_is k us o is in
            let i = bind_ok (below (binary k) (rest us)) (λ right. more below d k f (joins (joined o left right.0) (span_of left).start (span_of right.0).end) right.1) (e, r) p.1 in
            again (joins (joined o left i.0.0) (span_of left).start (span_of i.0.0).end) i.0.1
            (make_joined d k o w.0 (head_span us) ts (rest us) left i.0.0 i.0.1 w.2 w.3 (subst (λ (v : List Token). Took (binary (suc k)) (suc d) ts left v) w.1 took) (leb-true (expr_depth left) d p.0) (ih (binary k) (rest us) i.0.0 i.0.1 i.1)) i.2
        | inr p ↦ took_done (binary (suc k)) (suc d) ts e left r us took p.1
      ]

  chain_sound : (k : ℕ) → Sound (binary k) (suc d) (chain_at below d k)
  unfolding chain_at
  chain_sound zero ts e r h = unary_sound ts e r h
  chain_sound (suc k) ts e r h =
      let i = bind_ok (chain_at below d k ts) (λ left. more below d k (suc d) left.0 left.1) (e, r) h in
      let t = chain_sound k ts i.0.0 i.0.1 i.1 in
      more_sound k (suc d) ts i.0.0 i.0.1 (record { s = t.s; parts = t.parts; spelled = tighter t.spelled; fits = t.fits }) e r i.2

  choice_sound : (ts : List Token) (e : Expr) (us : List Token) → Took (binary loosest) (suc d) ts e us → (x : Expr) (r : List Token) → choice_at below d e us ≡ Ok (x, r) → Took conditional (suc d) ts x r
  unfolding choice_at
  choice_sound ts e us took x r h = elim (chosen (begins marks.Question us && nat_le (expr_depth e) d) (below assignment (rest us) >>= λ y. expect marks.Colon y.1 >>= λ colon. below conditional colon.1 >>= λ z. done (joins (Choose e y.0 z.0) (span_of e).start (span_of z.0).end) z.1) (done e us) (Ok (x, r)) h) [
    | inl p ↦
        let t = and_true (begins marks.Question us) (nat_le (expr_depth e) d) p.0 in
        let y = bind_ok (below assignment (rest us)) (λ y. expect marks.Colon y.1 >>= λ colon. below conditional colon.1 >>= λ z. done (joins (Choose e y.0 z.0) (span_of e).start (span_of z.0).end) z.1) (x, r) p.1 in
        let c = bind_ok (expect marks.Colon y.0.1) (λ colon. below conditional colon.1 >>= λ z. done (joins (Choose e y.0.0 z.0) (span_of e).start (span_of z.0).end) z.1) (x, r) y.2 in
        let z = bind_ok (below conditional c.0.1) (λ z. done (joins (Choose e y.0.0 z.0) (span_of e).start (span_of z.0).end) z.1) (x, r) c.2 in
        let left : Took (binary loosest) (suc d) ts e (mark marks.Question (head_span us) ∷ rest us) = subst (λ (v : List Token). Took (binary loosest) (suc d) ts e v) (begins_is marks.Question us t.0) took in
        let mid : Took assignment d (rest us) y.0.0 (mark marks.Colon c.0.0 ∷ c.0.1) = subst (λ (v : List Token). Took assignment d (rest us) y.0.0 v) (expect_is marks.Colon y.0.1 c.0.0 c.0.1 c.1) (ih assignment (rest us) y.0.0 y.0.1 y.1) in
        took_done conditional (suc d) ts x (joins (Choose e y.0.0 z.0.0) (span_of e).start (span_of z.0.0).end) r z.0.1
        (make_choice d (head_span us) c.0.0 ts (rest us) c.0.1 e y.0.0 z.0.0 z.0.1 left (leb-true (expr_depth e) d t.1) mid (ih conditional c.0.1 z.0.0 z.0.1 z.1)) z.2
    | inr p ↦ took_done conditional (suc d) ts x e r us (record { s = took.s; parts = took.parts; spelled = no_choice took.spelled; fits = took.fits }) p.1
  ]

  cond_sound : Sound conditional (suc d) (cond_at below d)
  unfolding cond_at
  cond_sound ts e r h =
      let i = bind_ok (chain_at below d loosest ts) (λ e. choice_at below d e.0 e.1) (e, r) h in
      choice_sound ts i.0.0 i.0.1 (chain_sound loosest ts i.0.0 i.0.1 i.1) e r i.2

  assign_by_sound : (o : Option (Option BinOp)) (ts : List Token) (e : Expr) (us : List Token) → assignment_at us ≡ o → Took conditional (suc d) ts e us → (x : Expr) (r : List Token) → assign_by below d o e us ≡ Ok (x, r) → Took assignment (suc d) ts x r
  unfolding assign_by
  assign_by_sound None ts e us is took x r h = took_done assignment (suc d) ts x e r us (record { s = took.s; parts = took.parts; spelled = no_assignment took.spelled; fits = took.fits }) h
  assign_by_sound (Some o) ts e us is took x r h = elim (chosen (is_unary e && nat_le (expr_depth e) d) (below assignment (rest us) >>= λ y. done (joins (Assign o e y.0) (span_of e).start (span_of y.0).end) y.1) (done e us) (Ok (x, r)) h) [
    | inl p ↦
        let t = and_true (is_unary e) (nat_le (expr_depth e) d) p.0 in
        let w = assignment_is us o is in
        let y = bind_ok (below assignment (rest us)) (λ y. done (joins (Assign o e y.0) (span_of e).start (span_of y.0).end) y.1) (x, r) p.1 in
        let left : Took (binary 0) (suc d) ts e (mark w.0 (head_span us) ∷ rest us) = subst (λ (v : List Token). Took (binary 0) (suc d) ts e v) w.1 (record { s = took.s; parts = took.parts; spelled = unary_cond took.spelled t.0; fits = took.fits }) in
        took_done assignment (suc d) ts x (joins (Assign o e y.0.0) (span_of e).start (span_of y.0.0).end) r y.0.1
        (make_assign d o w.0 (head_span us) ts (rest us) e y.0.0 y.0.1 w.2 left (leb-true (expr_depth e) d t.1) (ih assignment (rest us) y.0.0 y.0.1 y.1)) y.2
    | inr p ↦ took_done assignment (suc d) ts x e r us (record { s = took.s; parts = took.parts; spelled = no_assignment took.spelled; fits = took.fits }) p.1
  ]

  assign_sound : Sound assignment (suc d) (assign_at below d)
  unfolding assign_at
  assign_sound ts e r h =
      let i = bind_ok (cond_at below d ts) (λ e. assign_by below d (assignment_at e.1) e.0 e.1) (e, r) h in
      assign_by_sound (assignment_at i.0.1) ts i.0.0 i.0.1 refl (cond_sound ts i.0.0 i.0.1 i.1) e r i.2

pub sound : (d : ℕ) (rank : Rank) → Sound rank d (read d rank)
unfolding read
sound zero rank ts e r h = absurd cc
sound (suc d) assignment ts e r h = assign_sound (read d) d (sound d) ts e r h
sound (suc d) conditional ts e r h = cond_sound (read d) d (sound d) ts e r h
sound (suc d) (binary k) ts e r h = chain_sound (read d) d (sound d) k ts e r h
sound (suc d) postfix ts e r h = absurd cc
sound (suc d) primary ts e r h = absurd cc

pub shorter : (d : ℕ) (rank : Rank) (ts : List Token) (e : Expr) (r : List Token) → read d rank ts ≡ Ok (e, r) → length r < length ts
shorter d rank ts e r h = let t = sound d rank ts e r h in omega (arith, ap length t.parts, length-append t.s r, nonempty t.spelled)
