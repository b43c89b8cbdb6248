-- What is read of the parts of a statement.
use Rattle.std.proofs.Common.{◌≡◌, ℕ, ◌≤◌, List, [], ◌∷◌, ◌++◌, Option, Some, None, Ok, true, false, refl, sym, ap, subst, ◌∙◌, arith, append_assoc, inl, inr}
use Rattle.csub_text.specs.declared.span.Span.{Span}
use Rattle.csub_lex.specs.declared.token.Key.TheVariants as keys
use Rattle.csub_lex.specs.declared.token.Mark.{Mark}
use Rattle.csub_lex.specs.declared.token.Mark.TheVariants as marks
use Rattle.csub_lex.specs.declared.token.Token.{Token}
use Rattle.csub_tree.specs.Expressions.{Expr, span_of}
use Rattle.csub_tree.specs.Statements.{Stmt, StmtKind, Line, Eval}
use Rattle.csub_tree.specs.Depth.{if_there, expr_depth, stmt_depth}
use Rattle.csub_tree.specs.Tokens.{mark, first, runs}
use Rattle.csub_tree.specs.Lists.{missing, present}
use Rattle.csub_tree.specs.SpellsExpressions.{SpellsExpr, assignment}
use Rattle.csub_tree.specs.SpellsStatements.{ends_open, SpellsMaybe}
use Rattle.csub_expr.specs.Looks.{begins, begins_key}
use Rattle.csub_expr.specs.Answers.{Answer, ◌>>=◌, done, expect}
use Rattle.csub_expr.specs.ExprDescent.{read}
use Rattle.csub_expr.proofs.LawsAnswers.{bind_ok, ok_value, ok_rest, chosen}
use Rattle.csub_expr.proofs.LawsTokens.{expect_is, first_append, last_token}
use Rattle.csub_expr.proofs.LawsExpressions as expressions
use Rattle.csub_stmt.specs.StatementDescent.{line, maybe_at, evaluated_end, evaluated_at, ended_by, test_at}
use Rattle.csub_stmt.proofs.LawsTakes.{Sound, took_done}
use Rattle.csub_stmt.proofs.StatementShapes.{line_runs}

-- what was read, and no `else` that it wants stands behind it
pub record TookOpen (R : Stmt → List Token → Type 0) (d : ℕ) (ts : List Token) (x : Stmt) (r : List Token) : Type 0 where
  pub s : List Token
  pub parts : ts ≡ s ++ r
  pub spelled : R x s
  pub fits : stmt_depth x ≤ d
  pub tail : ends_open x ≡ true → begins_key keys.Else r ≡ false

abbrev pub SoundOpen : (Stmt → List Token → Type 0) → ℕ → (List Token → Answer Stmt) → Type 0
SoundOpen R d p = (ts : List Token) (x : Stmt) (r : List Token) → p ts ≡ Ok (x, r) → TookOpen R d ts x r

pub open_done : (R : Stmt → List Token → Type 0) (d : ℕ) (ts : List Token) (e x : Stmt) (r y : List Token) → TookOpen R d ts x y → done x y ≡ done e r → TookOpen R d ts e r
open_done R d ts e x r y h eq = subst (λ (v : Stmt). TookOpen R d ts v r) (ok_value x e y r eq) (subst (λ (v : List Token). TookOpen R d ts x v) (ok_rest x e y r eq) h)

pub open_as : (R : Stmt → List Token → Type 0) (d : ℕ) (ts : List Token) (e x : Stmt) (r : List Token) → x ≡ e → TookOpen R d ts e r → TookOpen R d ts x r
open_as R d ts e x r eq h = subst (λ (v : Stmt). TookOpen R d ts v r) (sym eq) h

pub open_at : (R : Stmt → List Token → Type 0) (d : ℕ) (ts us : List Token) (x : Stmt) (r : List Token) → ts ≡ us → TookOpen R d us x r → TookOpen R d ts x r
open_at R d ts us x r eq h = subst (λ (v : List Token). TookOpen R d v x r) (sym eq) h

-- the tail left out
pub closed : (R : Stmt → List Token → Type 0) (d : ℕ) (p : List Token → Answer Stmt) → SoundOpen R d p → Sound Stmt R stmt_depth d p
closed R d p h ts x r e = let t = h ts x r e in record { s = t.s; parts = t.parts; spelled = t.spelled; fits = t.fits }

-- [assign]
pub maybe_sound : (d : ℕ) (m : Mark) → Sound (Option Expr) SpellsMaybe (if_there expr_depth) d (maybe_at d m)
unfolding maybe_at
maybe_sound d m ts e r h = elim (chosen (begins m ts) (done None ts) (read d assignment ts >>= λ x. done (Some x.0) x.1) (Ok (e, r)) h) [
  | inl p ↦ took_done (Option Expr) SpellsMaybe (if_there expr_depth) d ts e None r ts (record { s = []; parts = refl; spelled = missing; fits = omega arith }) p.1
  | inr p ↦
      let i = bind_ok (read d assignment ts) (λ x. done (Some x.0) x.1) (e, r) p.1 in
      let t = expressions.sound d assignment ts i.0.0 i.0.1 i.1 in
      took_done (Option Expr) SpellsMaybe (if_there expr_depth) d ts e (Some i.0.0) r i.0.1 (record { s = t.s; parts = t.parts; spelled = present t.spelled; fits = t.fits }) i.2
]

-- an expression and ";"
pub record TookEval (d : ℕ) (ts : List Token) (x : Stmt) (r : List Token) : Type 0 where
  pub e : Expr
  pub s : List Token
  pub a : Span
  pub parts : ts ≡ s ++ mark marks.Semicolon a ∷ r
  pub spelled : SpellsExpr assignment e s
  pub fits : expr_depth e ≤ d
  pub same : Line (Eval e) (runs (s ++ mark marks.Semicolon a ∷ [])) ≡ x

pub evaluated_end_sound : (d : ℕ) (e : Expr) (ts us : List Token) → expressions.Took assignment d ts e us → (x : Stmt) (r : List Token) → evaluated_end e us ≡ Ok (x, r) → TookEval d ts x r
unfolding evaluated_end
evaluated_end_sound d e ts us t x r h =
    let c = bind_ok (expect marks.Semicolon us) (λ semi. done (line (Eval e) (span_of e).start semi.0.end) semi.1) (x, r) h in
    let m = mark marks.Semicolon c.0.0 in
    let whole : List Token = t.s ++ m ∷ [] in
    let starts : (span_of e).start ≡ first whole = ap (λ (y : Span). y.start) (expressions.spanned t.spelled) ∙ sym (first_append t.s (m ∷ []) (expressions.nonempty t.spelled)) in
    record {
      e = e;
      s = t.s;
      a = c.0.0;
      parts = t.parts ∙ ap (λ (u : List Token). t.s ++ u) (expect_is marks.Semicolon us c.0.0 c.0.1 c.1 ∙ ap (λ (u : List Token). m ∷ u) (ok_rest (line (Eval e) (span_of e).start c.0.0.end) x c.0.1 r c.2));
      spelled = t.spelled;
      fits = t.fits;
      same = sym (line_runs (Eval e) (span_of e).start c.0.0.end whole starts (sym (last_token t.s m))) ∙ ok_value (line (Eval e) (span_of e).start c.0.0.end) x c.0.1 r c.2;
    }

pub evaluated_sound : (d : ℕ) (ts : List Token) (x : Stmt) (r : List Token) → evaluated_at d ts ≡ Ok (x, r) → TookEval d ts x r
unfolding evaluated_at
evaluated_sound d ts x r h =
    let i = bind_ok (read d assignment ts) (λ e. evaluated_end e.0 e.1) (x, r) h in
    evaluated_end_sound d i.0.0 ts i.0.1 (expressions.sound d assignment ts i.0.0 i.0.1 i.1) x r i.2

-- ";" behind a statement's other tokens
pub record Ended (k : StmtKind) (start : ℕ) (ts : List Token) (x : Stmt) (r : List Token) : Type 0 where
  pub a : Span
  pub parts : ts ≡ mark marks.Semicolon a ∷ r
  pub same : line k start a.end ≡ x

pub ended_is : (k : StmtKind) (start : ℕ) (ts : List Token) (x : Stmt) (r : List Token) → ended_by k start ts ≡ Ok (x, r) → Ended k start ts x r
unfolding ended_by
ended_is k start ts x r h =
    let c = bind_ok (expect marks.Semicolon ts) (λ semi. done (line k start semi.0.end) semi.1) (x, r) h in
    record {
      a = c.0.0;
      parts = expect_is marks.Semicolon ts c.0.0 c.0.1 c.1 ∙ ap (λ (u : List Token). mark marks.Semicolon c.0.0 ∷ u) (ok_rest (line k start c.0.0.end) x c.0.1 r c.2);
      same = ok_value (line k start c.0.0.end) x c.0.1 r c.2;
    }

-- "(" assign ")"
pub record TookTest (d : ℕ) (ts : List Token) (e : Expr) (r : List Token) : Type 0 where
  pub a : Span
  pub b : Span
  pub s : List Token
  pub parts : ts ≡ mark marks.OpenParen a ∷ (s ++ mark marks.CloseParen b ∷ r)
  pub spelled : SpellsExpr assignment e s
  pub fits : expr_depth e ≤ d

test_done : (d : ℕ) (ts : List Token) (e x : Expr) (r y : List Token) → TookTest d ts x y → done x y ≡ done e r → TookTest d ts e r
test_done d ts e x r y h eq = subst (λ (v : Expr). TookTest d ts v r) (ok_value x e y r eq) (subst (λ (v : List Token). TookTest d ts x v) (ok_rest x e y r eq) h)

pub test_sound : (below : List Token → Answer Stmt) (d : ℕ) (ts : List Token) (e : Expr) (r : List Token) → test_at below d ts ≡ Ok (e, r) → TookTest d ts e r
unfolding test_at
test_sound below d ts e r h =
    let o = bind_ok (expect marks.OpenParen ts) (λ o. read d assignment o.1 >>= λ e. expect marks.CloseParen e.1 >>= λ c. done e.0 c.1) (e, r) h in
    let i = bind_ok (read d assignment o.0.1) (λ e. expect marks.CloseParen e.1 >>= λ c. done e.0 c.1) (e, r) o.2 in
    let c = bind_ok (expect marks.CloseParen i.0.1) (λ c. done i.0.0 c.1) (e, r) i.2 in
    let t = expressions.sound d assignment o.0.1 i.0.0 i.0.1 i.1 in
    test_done d ts e i.0.0 r c.0.1 (record {
      a = o.0.0;
      b = c.0.0;
      s = t.s;
      parts = expect_is marks.OpenParen ts o.0.0 o.0.1 o.1 ∙ ap (λ (u : List Token). mark marks.OpenParen o.0.0 ∷ u) (t.parts ∙ ap (λ (u : List Token). t.s ++ u) (expect_is marks.CloseParen i.0.1 c.0.0 c.0.1 c.1));
      spelled = t.spelled;
      fits = t.fits;
    }) c.2

-- the tokens of a test and what stands behind it
pub after_test : (d : ℕ) (k : Token) (ts us : List Token) (e : Expr) (t : TookTest d ts e us) (v r : List Token) → us ≡ v ++ r → k ∷ ts ≡ (k ∷ mark marks.OpenParen t.a ∷ (t.s ++ mark marks.CloseParen t.b ∷ v)) ++ r
after_test d k ts us e t v r p = ap (λ (u : List Token). k ∷ u) (t.parts ∙ ap (λ (u : List Token). mark marks.OpenParen t.a ∷ (t.s ++ mark marks.CloseParen t.b ∷ u)) p ∙ ap (λ (u : List Token). mark marks.OpenParen t.a ∷ u) (sym (append_assoc t.s (mark marks.CloseParen t.b ∷ v) r)))
