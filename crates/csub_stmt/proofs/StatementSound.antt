-- A statement that is read is spelled so, within the depth, and no `else` stands behind it that it wants.
use Rattle.std.proofs.Common.{◌≡◌, ℕ, zero, suc, ◌≤◌, List, [], ◌∷◌, ◌++◌, length, Option, Some, None, Ok, Err, true, false, cond, refl, sym, ap, subst, ◌∙◌, arith, inl, inr}
use Rattle.std.specs.Prelude.{nat_le}
use Rattle.csub_text.specs.declared.span.Span.{Span}
use Rattle.csub_lex.specs.declared.token.Key.TheVariants as keys
use Rattle.csub_lex.specs.declared.token.Mark.TheVariants as marks
use Rattle.csub_lex.specs.declared.token.Token.{Token}
use Rattle.csub_tree.specs.declared.name.Name.{Name}
use Rattle.csub_tree.specs.Expressions.{Expr, span_of}
use Rattle.csub_tree.specs.Declarations.{Declare}
use Rattle.csub_tree.specs.Statements.{Stmt, Perhaps, Line, Declared, Eval, Empty, Block, If, While, Do, For, Switch, Case, Default, Break, Continue, Goto, Label, Return, NoStmt, OneStmt, stmts_of}
use Rattle.csub_tree.specs.Depth.{if_there, expr_depth, stmt_depth, perhaps_depth}
use Rattle.csub_tree.specs.Tokens.{mark, key, id, runs}
use Rattle.csub_tree.specs.SpellsExpressions.{assignment, conditional}
use Rattle.csub_tree.specs.SpellsDeclarations.{SpellsDecl}
use Rattle.csub_tree.specs.SpellsStatements.{ends_open, SpellsMaybe, SpellsFirst, first_declared, first_evaluated, first_empty, SpellsStmt, block, empty, evaluated, switched, broken_off, continued, gone_to, returned, SpellsLine, declaring, stating, SpellsSwitchLine, plain_line, case_label, default_label, label_line, placed}
use Rattle.csub_stmt.specs.declared.opening.Opening.{Opening}
use Rattle.csub_stmt.specs.declared.opening.Opening.TheVariants as openings
use Rattle.csub_expr.specs.Looks.{begins, begins_key, rest, head_span}
use Rattle.csub_expr.specs.Answers.{Answer, ◌>>=◌, done, expect, expect_name}
use Rattle.csub_expr.specs.ListDescent.{repeated}
use Rattle.csub_expr.specs.ExprDescent.{read}
use Rattle.csub_expr.proofs.LawsAnswers.{bind_ok, ok_value, ok_rest, chosen}
use Rattle.csub_expr.proofs.LawsTokens.{begins_is, begins_key_is, expect_is, expect_name_is, last_token, last_behind}
use Rattle.csub_expr.proofs.LawsExpressions as expressions
use Rattle.csub_stmt.specs.Openings.{begins_base, opening_at}
use Rattle.csub_stmt.specs.DeclarationDescent.{decl_at}
use Rattle.csub_stmt.specs.StatementDescent.{stmt_span, line, bare_name, expect_key, maybe_at, declared_at, evaluated_end, evaluated_at, first_at, line_by, case_at, default_at, switch_line_by, ended_by, test_at, block_at, else_at, if_at, while_at, do_at, for_body, for_parts, for_at, switch_body, switch_at, goto_at, return_at, label_at, after_at, plain_at, inner, outer, empty_at, stmt_by, stmt_at, read_stmt, read_line}
use Rattle.csub_stmt.proofs.LawsTakes.{Took, Sound, Shorter, took_done, took_shorter, cut_at, cut_first, expect_key_is}
use Rattle.csub_stmt.proofs.LawsSequences.{repeated_sound}
use Rattle.csub_stmt.proofs.DeclarationSound.{decl_sound}
use Rattle.csub_stmt.proofs.StatementShapes.{decl_spanned, line_some, switch_line_some, line_runs, lines_of, switch_lines_of, stmts_most, bare_is, Means, opening_means}
use Rattle.csub_stmt.proofs.StatementParts.{SoundOpen, TookEval, TookOpen, TookTest, after_test, closed, ended_is, evaluated_end_sound, evaluated_sound, maybe_sound, open_as, open_at, open_done, test_sound}
use Rattle.csub_stmt.proofs.StatementMade.{make_do, make_else, make_for, make_if, make_label, make_while}

-- declarations as statements
declared_took : (d : ℕ) (ts : List Token) (x : Stmt) (r : List Token) → declared_at d ts ≡ Ok (x, r) → (y : Declare) × (s : List Token) × (ts ≡ s ++ r) × SpellsDecl y s × (stmt_depth x ≤ suc d) × (Line (Declared y) (runs s) ≡ x) × (ends_open x ≡ false)
unfolding declared_at
declared_took d ts x r h =
    let i = bind_ok (decl_at d ts) (λ y. done (Line (Declared y.0) y.0.span) y.1) (x, r) h in
    let t = decl_sound d ts i.0.0 i.0.1 i.1 in
    let same : Line (Declared i.0.0) i.0.0.span ≡ x = ok_value (Line (Declared i.0.0) i.0.0.span) x i.0.1 r i.2 in (
      i.0.0,
      t.s,
      t.parts ∙ ap (λ (u : List Token). t.s ++ u) (ok_rest (Line (Declared i.0.0) i.0.0.span) x i.0.1 r i.2),
      t.spelled,
      subst (λ (v : Stmt). stmt_depth v ≤ suc d) same (omega (arith, t.fits)),
      ap (λ (sp : Span). Line (Declared i.0.0) sp) (sym (decl_spanned t.spelled)) ∙ same,
      subst (λ (v : Stmt). ends_open v ≡ false) same refl,
    )

false_open : (x : Stmt) (r : List Token) → ends_open x ≡ false → ends_open x ≡ true → begins_key keys.Else r ≡ false
false_open x r e o = absurd (cc (sym e ∙ o))

line_sound : (d : ℕ) (p : List Token → Answer Stmt) → SoundOpen SpellsStmt d p → SoundOpen SpellsLine d (line_by p d)
unfolding line_by
line_sound zero p h ts x r e = absurd cc
line_sound (suc d) p h ts x r e = elim (chosen (begins_base ts) (declared_at d ts) (p ts) (Ok (x, r)) e) [
  | inl q ↦
      let t = declared_took d ts x r q.1 in
      record { s = t.1; parts = t.2; spelled = subst (λ (v : Stmt). SpellsLine v t.1) t.5 (declaring t.3); fits = t.4; tail = false_open x r t.6 }
  | inr q ↦ let t = h ts x r q.1 in record { s = t.s; parts = t.parts; spelled = stating t.spelled; fits = t.fits; tail = t.tail }
]

case_sound : (d : ℕ) (a : Span) (ts : List Token) (x : Stmt) (r : List Token) → case_at d a.start ts ≡ Ok (x, r) → TookOpen SpellsSwitchLine (suc d) (key keys.Case a ∷ ts) x r
unfolding case_at
case_sound d a ts x r h =
    let i = bind_ok (read d conditional ts) (λ e. expect marks.Colon e.1 >>= λ colon. done (line (Case e.0) a.start colon.0.end) colon.1) (x, r) h in
    let c = bind_ok (expect marks.Colon i.0.1) (λ colon. done (line (Case i.0.0) a.start colon.0.end) colon.1) (x, r) i.2 in
    let t = expressions.sound d conditional ts i.0.0 i.0.1 i.1 in
    let m = mark marks.Colon c.0.0 in
    let whole : List Token = key keys.Case a ∷ (t.s ++ m ∷ []) in
    open_done SpellsSwitchLine (suc d) (key keys.Case a ∷ ts) x (line (Case i.0.0) a.start c.0.0.end) r c.0.1
    (open_as SpellsSwitchLine (suc d) (key keys.Case a ∷ ts) (Line (Case i.0.0) (runs whole)) (line (Case i.0.0) a.start c.0.0.end) c.0.1
    (line_runs (Case i.0.0) a.start c.0.0.end whole refl (sym (last_token (key keys.Case a ∷ t.s) m)))
    (record {
      s = whole;
      parts = ap (λ (u : List Token). key keys.Case a ∷ u) (cut_at t.s [] m ts c.0.1 c.0.1 (t.parts ∙ ap (λ (u : List Token). t.s ++ u) (expect_is marks.Colon i.0.1 c.0.0 c.0.1 c.1)) refl);
      spelled = label_line (case_label a c.0.0 t.spelled);
      fits = omega (arith, t.fits);
      tail = λ o. absurd cc;
    })) c.2

default_sound : (d : ℕ) (a : Span) (ts : List Token) (x : Stmt) (r : List Token) → default_at a.start ts ≡ Ok (x, r) → TookOpen SpellsSwitchLine (suc d) (key keys.Default a ∷ ts) x r
unfolding default_at
default_sound d a ts x r h =
    let c = bind_ok (expect marks.Colon ts) (λ colon. done (line Default a.start colon.0.end) colon.1) (x, r) h in
    open_done SpellsSwitchLine (suc d) (key keys.Default a ∷ ts) x (line Default a.start c.0.0.end) r c.0.1
    (record {
      s = key keys.Default a ∷ mark marks.Colon c.0.0 ∷ [];
      parts = ap (λ (u : List Token). key keys.Default a ∷ u) (expect_is marks.Colon ts c.0.0 c.0.1 c.1);
      spelled = label_line (default_label a c.0.0);
      fits = omega arith;
      tail = λ o. absurd cc;
    }) c.2

switch_line_sound : (d : ℕ) (p : List Token → Answer Stmt) → SoundOpen SpellsStmt d p → SoundOpen SpellsSwitchLine d (switch_line_by p d)
unfolding switch_line_by
switch_line_sound zero p h ts x r e = absurd cc
switch_line_sound (suc d) p h ts x r e = elim (chosen (begins_key keys.Case ts) (cond (nat_le 1 d) (case_at d (head_span ts).start (rest ts)) (Err (length ts))) (cond (begins_key keys.Default ts) (default_at (head_span ts).start (rest ts)) (line_by p (suc d) ts)) (Ok (x, r)) e) [
  | inl q ↦ elim (chosen (nat_le 1 d) (case_at d (head_span ts).start (rest ts)) (Err (length ts)) (Ok (x, r)) q.1) [
    | inl w ↦ open_at SpellsSwitchLine (suc d) ts (key keys.Case (head_span ts) ∷ rest ts) x r (begins_key_is keys.Case ts q.0) (case_sound d (head_span ts) (rest ts) x r w.1)
    | inr w ↦ absurd (cc w.1)
  ]
  | inr q ↦ elim (chosen (begins_key keys.Default ts) (default_at (head_span ts).start (rest ts)) (line_by p (suc d) ts) (Ok (x, r)) q.1) [
    | inl w ↦ open_at SpellsSwitchLine (suc d) ts (key keys.Default (head_span ts) ∷ rest ts) x r (begins_key_is keys.Default ts w.0) (default_sound d (head_span ts) (rest ts) x r w.1)
    | inr w ↦ let t = line_sound (suc d) p h ts x r w.1 in record { s = t.s; parts = t.parts; spelled = plain_line t.spelled; fits = t.fits; tail = t.tail }
  ]
]

-- the first part of a `for`
first_none : (d : ℕ) (ts : List Token) (p : Perhaps) (r : List Token) → begins marks.Semicolon ts ≡ true → done NoStmt (rest ts) ≡ Ok (p, r) → Took Perhaps SpellsFirst perhaps_depth d ts p r
first_none d ts p r is e = took_done Perhaps SpellsFirst perhaps_depth d ts p NoStmt r (rest ts) (record { s = mark marks.Semicolon (head_span ts) ∷ []; parts = begins_is marks.Semicolon ts is; spelled = first_empty (head_span ts); fits = omega arith }) e

first_sound : (d : ℕ) → Sound Perhaps SpellsFirst perhaps_depth d (first_at d)
unfolding first_at
first_sound zero ts p r h = elim (chosen (begins marks.Semicolon ts) (done NoStmt (rest ts)) (Err (length ts)) (Ok (p, r)) h) [
  | inl q ↦ first_none zero ts p r q.0 q.1
  | inr q ↦ absurd (cc q.1)
]
first_sound (suc d) ts p r h = elim (chosen (begins marks.Semicolon ts) (done NoStmt (rest ts)) (cond (begins_base ts) (declared_at d ts >>= λ x. done (OneStmt x.0) x.1) (evaluated_at d ts >>= λ x. done (OneStmt x.0) x.1)) (Ok (p, r)) h) [
  | inl q ↦ first_none (suc d) ts p r q.0 q.1
  | inr q ↦ elim (chosen (begins_base ts) (declared_at d ts >>= λ x. done (OneStmt x.0) x.1) (evaluated_at d ts >>= λ x. done (OneStmt x.0) x.1) (Ok (p, r)) q.1) [
    | inl w ↦
        let i = bind_ok (declared_at d ts) (λ x. done (OneStmt x.0) x.1) (p, r) w.1 in
        let t = declared_took d ts i.0.0 i.0.1 i.1 in
        took_done Perhaps SpellsFirst perhaps_depth (suc d) ts p (OneStmt i.0.0) r i.0.1 (record { s = t.1; parts = t.2; spelled = subst (λ (v : Stmt). SpellsFirst (OneStmt v) t.1) t.5 (first_declared t.3); fits = t.4 }) i.2
    | inr w ↦
        let i = bind_ok (evaluated_at d ts) (λ x. done (OneStmt x.0) x.1) (p, r) w.1 in
        let t = evaluated_sound d ts i.0.0 i.0.1 i.1 in
        let m = mark marks.Semicolon t.a in
        took_done Perhaps SpellsFirst perhaps_depth (suc d) ts p (OneStmt i.0.0) r i.0.1 (record {
          s = t.s ++ m ∷ [];
          parts = cut_at t.s [] m ts i.0.1 i.0.1 t.parts refl;
          spelled = subst (λ (v : Stmt). SpellsFirst (OneStmt v) (t.s ++ m ∷ [])) t.same (first_evaluated t.a t.spelled);
          fits = subst (λ (v : Stmt). stmt_depth v ≤ suc d) t.same (omega (arith, t.fits));
        }) i.2
  ]
]

module _ (below : List Token → Answer Stmt) (d : ℕ) (ih : SoundOpen SpellsStmt d below) where
  block_sound : (a : Span) (ts : List Token) (x : Stmt) (r : List Token) → block_at below d a.start ts ≡ Ok (x, r) → TookOpen SpellsStmt (suc d) (mark marks.OpenBrace a ∷ ts) x r
  unfolding block_at
  block_sound a ts x r h =
      let i = bind_ok (repeated (line_by below d) (begins marks.CloseBrace) (suc (length ts)) ts) (λ all. expect marks.CloseBrace all.1 >>= λ c. done (line (Block (stmts_of all.0)) a.start c.0.end) c.1) (x, r) h in
      let c = bind_ok (expect marks.CloseBrace i.0.1) (λ c. done (line (Block (stmts_of i.0.0)) a.start c.0.end) c.1) (x, r) i.2 in
      let t = repeated_sound Stmt SpellsLine stmt_depth d (line_by below d) (begins marks.CloseBrace) (closed SpellsLine d (line_by below d) (line_sound d below ih)) (suc (length ts)) ts i.0.0 i.0.1 i.1 in
      let o = mark marks.OpenBrace a in
      let m = mark marks.CloseBrace c.0.0 in
      let k = Block (stmts_of i.0.0) in
      open_done SpellsStmt (suc d) (o ∷ ts) x (line k a.start c.0.0.end) r c.0.1
      (open_as SpellsStmt (suc d) (o ∷ ts) (Line k (runs (o ∷ (t.s ++ m ∷ [])))) (line k a.start c.0.0.end) c.0.1
      (line_runs k a.start c.0.0.end (o ∷ (t.s ++ m ∷ [])) refl (sym (last_token (o ∷ t.s) m)))
      (record {
        s = o ∷ (t.s ++ m ∷ []);
        parts = ap (λ (u : List Token). o ∷ u) (cut_at t.s [] m ts c.0.1 c.0.1 (t.parts ∙ ap (λ (u : List Token). t.s ++ u) (expect_is marks.CloseBrace i.0.1 c.0.0 c.0.1 c.1)) refl);
        spelled = placed (block a c.0.0 (lines_of t.spelled));
        fits = omega (arith, t.fits, stmts_most i.0.0);
        tail = λ o. absurd cc;
      })) c.2

  else_sound : (a : Span) (ts us : List Token) (e : Expr) → TookTest d ts e us → (x : Stmt) (vs : List Token) → TookOpen SpellsStmt d us x vs → (y : Stmt) (r : List Token) → else_at below d a.start e x vs ≡ Ok (y, r) → TookOpen SpellsStmt (suc d) (key keys.If a ∷ ts) y r
  unfolding else_at
  else_sound a ts us e p x vs t y r h = elim (chosen (begins_key keys.Else vs) (below (rest vs) >>= λ z. done (line (If e x (OneStmt z.0)) a.start (stmt_span z.0).end) z.1) (done (line (If e x NoStmt) a.start (stmt_span x).end) vs) (Ok (y, r)) h) [
    | inl q ↦
        let i = bind_ok (below (rest vs)) (λ z. done (line (If e x (OneStmt z.0)) a.start (stmt_span z.0).end) z.1) (y, r) q.1 in
        let t' = subst (λ (u : List Token). TookOpen SpellsStmt d us x u) (begins_key_is keys.Else vs q.0) t in
        open_done SpellsStmt (suc d) (key keys.If a ∷ ts) y (line (If e x (OneStmt i.0.0)) a.start (stmt_span i.0.0).end) r i.0.1 (make_else d a (head_span vs) ts us (rest vs) e x i.0.0 i.0.1 p t' (ih (rest vs) i.0.0 i.0.1 i.1)) i.2
    | inr q ↦ open_done SpellsStmt (suc d) (key keys.If a ∷ ts) y (line (If e x NoStmt) a.start (stmt_span x).end) r vs (make_if d a ts us e x vs p t q.0) q.1
  ]

  if_sound : (a : Span) (ts : List Token) (x : Stmt) (r : List Token) → if_at below d a.start ts ≡ Ok (x, r) → TookOpen SpellsStmt (suc d) (key keys.If a ∷ ts) x r
  unfolding if_at
  if_sound a ts x r h =
      let e = bind_ok (test_at below d ts) (λ e. below e.1 >>= λ y. else_at below d a.start e.0 y.0 y.1) (x, r) h in
      let y = bind_ok (below e.0.1) (λ y. else_at below d a.start e.0.0 y.0 y.1) (x, r) e.2 in
      else_sound a ts e.0.1 e.0.0 (test_sound below d ts e.0.0 e.0.1 e.1) y.0.0 y.0.1 (ih e.0.1 y.0.0 y.0.1 y.1) x r y.2

  while_sound : (a : Span) (ts : List Token) (x : Stmt) (r : List Token) → while_at below d a.start ts ≡ Ok (x, r) → TookOpen SpellsStmt (suc d) (key keys.While a ∷ ts) x r
  unfolding while_at
  while_sound a ts x r h =
      let e = bind_ok (test_at below d ts) (λ e. below e.1 >>= λ y. done (line (While e.0 y.0) a.start (stmt_span y.0).end) y.1) (x, r) h in
      let y = bind_ok (below e.0.1) (λ y. done (line (While e.0.0 y.0) a.start (stmt_span y.0).end) y.1) (x, r) e.2 in
      open_done SpellsStmt (suc d) (key keys.While a ∷ ts) x (line (While e.0.0 y.0.0) a.start (stmt_span y.0.0).end) r y.0.1 (make_while d a ts e.0.1 e.0.0 y.0.0 y.0.1 (test_sound below d ts e.0.0 e.0.1 e.1) (ih e.0.1 y.0.0 y.0.1 y.1)) y.2

  do_sound : (a : Span) (ts : List Token) (x : Stmt) (r : List Token) → do_at below d a.start ts ≡ Ok (x, r) → TookOpen SpellsStmt (suc d) (key keys.Do a ∷ ts) x r
  unfolding do_at
  do_sound a ts x r h =
      let y = bind_ok (below ts) (λ y. expect_key keys.While y.1 >>= λ w. test_at below d w.1 >>= λ e. ended_by (Do y.0 e.0) a.start e.1) (x, r) h in
      let w = bind_ok (expect_key keys.While y.0.1) (λ w. test_at below d w.1 >>= λ e. ended_by (Do y.0.0 e.0) a.start e.1) (x, r) y.2 in
      let e = bind_ok (test_at below d w.0.1) (λ e. ended_by (Do y.0.0 e.0) a.start e.1) (x, r) w.2 in
      let f = ended_is (Do y.0.0 e.0.0) a.start e.0.1 x r e.2 in
      let t = subst (λ (u : List Token). TookOpen SpellsStmt d ts y.0.0 u) (expect_key_is keys.While y.0.1 w.0.0 w.0.1 w.1) (ih ts y.0.0 y.0.1 y.1) in
      open_as SpellsStmt (suc d) (key keys.Do a ∷ ts) (line (Do y.0.0 e.0.0) a.start f.a.end) x r (sym f.same) (make_do d a w.0.0 f.a ts w.0.1 e.0.1 e.0.0 y.0.0 r t (test_sound below d w.0.1 e.0.0 e.0.1 e.1) f.parts)

  for_sound : (a : Span) (ts : List Token) (x : Stmt) (r : List Token) → for_at below d a.start ts ≡ Ok (x, r) → TookOpen SpellsStmt (suc d) (key keys.For a ∷ ts) x r
  unfolding for_at for_parts for_body
  for_sound a ts x r h =
      let body : Perhaps → Option Expr → Option Expr → Span × List Token → Answer Stmt = λ p e f c. below c.1 >>= λ y. done (line (For p e f y.0) a.start (stmt_span y.0).end) y.1 in
      let third : Perhaps → Option Expr → Option Expr × List Token → Answer Stmt = λ p e f. expect marks.CloseParen f.1 >>= body p e f.0 in
      let second : Perhaps → Option Expr → Span × List Token → Answer Stmt = λ p e s. maybe_at d marks.CloseParen s.1 >>= third p e in
      let first_part : Perhaps → Option Expr × List Token → Answer Stmt = λ p e. expect marks.Semicolon e.1 >>= second p e.0 in
      let o = bind_ok (expect marks.OpenParen ts) (λ o. first_at d o.1 >>= λ p. maybe_at d marks.Semicolon p.1 >>= first_part p.0) (x, r) h in
      let p = bind_ok (first_at d o.0.1) (λ p. maybe_at d marks.Semicolon p.1 >>= first_part p.0) (x, r) o.2 in
      let e = bind_ok (maybe_at d marks.Semicolon p.0.1) (first_part p.0.0) (x, r) p.2 in
      let s = bind_ok (expect marks.Semicolon e.0.1) (second p.0.0 e.0.0) (x, r) e.2 in
      let f = bind_ok (maybe_at d marks.CloseParen s.0.1) (third p.0.0 e.0.0) (x, r) s.2 in
      let c = bind_ok (expect marks.CloseParen f.0.1) (body p.0.0 e.0.0 f.0.0) (x, r) f.2 in
      let y = bind_ok (below c.0.1) (λ y. done (line (For p.0.0 e.0.0 f.0.0 y.0) a.start (stmt_span y.0).end) y.1) (x, r) c.2 in
      let te = subst (λ (u : List Token). Took (Option Expr) SpellsMaybe (if_there expr_depth) d p.0.1 e.0.0 u) (expect_is marks.Semicolon e.0.1 s.0.0 s.0.1 s.1) (maybe_sound d marks.Semicolon p.0.1 e.0.0 e.0.1 e.1) in
      let tf = subst (λ (u : List Token). Took (Option Expr) SpellsMaybe (if_there expr_depth) d s.0.1 f.0.0 u) (expect_is marks.CloseParen f.0.1 c.0.0 c.0.1 c.1) (maybe_sound d marks.CloseParen s.0.1 f.0.0 f.0.1 f.1) in
      open_done SpellsStmt (suc d) (key keys.For a ∷ ts) x (line (For p.0.0 e.0.0 f.0.0 y.0.0) a.start (stmt_span y.0.0).end) r y.0.1
      (make_for d a o.0.0 s.0.0 c.0.0 ts o.0.1 p.0.1 s.0.1 c.0.1 p.0.0 e.0.0 f.0.0 y.0.0 y.0.1 (expect_is marks.OpenParen ts o.0.0 o.0.1 o.1) (first_sound d o.0.1 p.0.0 p.0.1 p.1) te tf (ih c.0.1 y.0.0 y.0.1 y.1)) y.2

  switch_body_sound : (a b : Span) (ts us vs : List Token) (e : Expr) → TookTest d ts e us → us ≡ mark marks.OpenBrace b ∷ vs → (x : Stmt) (r : List Token) → switch_body below d a.start e vs ≡ Ok (x, r) → TookOpen SpellsStmt (suc d) (key keys.Switch a ∷ ts) x r
  unfolding switch_body
  switch_body_sound a b ts us vs e p opens x r h =
      let i = bind_ok (repeated (switch_line_by below d) (begins marks.CloseBrace) (suc (length vs)) vs) (λ all. expect marks.CloseBrace all.1 >>= λ c. done (line (Switch e (stmts_of all.0)) a.start c.0.end) c.1) (x, r) h in
      let c = bind_ok (expect marks.CloseBrace i.0.1) (λ c. done (line (Switch e (stmts_of i.0.0)) a.start c.0.end) c.1) (x, r) i.2 in
      let t = repeated_sound Stmt SpellsSwitchLine stmt_depth d (switch_line_by below d) (begins marks.CloseBrace) (closed SpellsSwitchLine d (switch_line_by below d) (switch_line_sound d below ih)) (suc (length vs)) vs i.0.0 i.0.1 i.1 in
      let o = mark marks.OpenParen p.a in
      let n = mark marks.CloseParen p.b in
      let l = mark marks.OpenBrace b in
      let m = mark marks.CloseBrace c.0.0 in
      let k = Switch e (stmts_of i.0.0) in
      let whole : List Token = key keys.Switch a ∷ o ∷ (p.s ++ n ∷ l ∷ (t.s ++ m ∷ [])) in
      open_done SpellsStmt (suc d) (key keys.Switch a ∷ ts) x (line k a.start c.0.0.end) r c.0.1
      (open_as SpellsStmt (suc d) (key keys.Switch a ∷ ts) (Line k (runs whole)) (line k a.start c.0.0.end) c.0.1
      (line_runs k a.start c.0.0.end whole refl (sym (last_behind (key keys.Switch a ∷ o ∷ p.s) n (l ∷ (t.s ++ m ∷ [])) (omega arith) ∙ last_token (l ∷ t.s) m)))
      (record {
        s = whole;
        parts = after_test d (key keys.Switch a) ts us e p (l ∷ (t.s ++ m ∷ [])) c.0.1 (cut_first (t.s ++ m ∷ []) l us vs c.0.1 opens (cut_at t.s [] m vs c.0.1 c.0.1 (t.parts ∙ ap (λ (u : List Token). t.s ++ u) (expect_is marks.CloseBrace i.0.1 c.0.0 c.0.1 c.1)) refl));
        spelled = placed (switched a p.a p.b b c.0.0 p.spelled (switch_lines_of t.spelled));
        fits = omega (arith, p.fits, t.fits, stmts_most i.0.0);
        tail = λ o. absurd cc;
      })) c.2

  switch_sound : (a : Span) (ts : List Token) (x : Stmt) (r : List Token) → switch_at below d a.start ts ≡ Ok (x, r) → TookOpen SpellsStmt (suc d) (key keys.Switch a ∷ ts) x r
  unfolding switch_at
  switch_sound a ts x r h =
      let e = bind_ok (test_at below d ts) (λ e. expect marks.OpenBrace e.1 >>= λ o. switch_body below d a.start e.0 o.1) (x, r) h in
      let o = bind_ok (expect marks.OpenBrace e.0.1) (λ o. switch_body below d a.start e.0.0 o.1) (x, r) e.2 in
      switch_body_sound a o.0.0 ts e.0.1 o.0.1 e.0.0 (test_sound below d ts e.0.0 e.0.1 e.1) (expect_is marks.OpenBrace e.0.1 o.0.0 o.0.1 o.1) x r o.2

  break_sound : (a : Span) (ts : List Token) (x : Stmt) (r : List Token) → ended_by Break a.start ts ≡ Ok (x, r) → TookOpen SpellsStmt (suc d) (key keys.Break a ∷ ts) x r
  break_sound a ts x r h =
      let f = ended_is Break a.start ts x r h in
      open_as SpellsStmt (suc d) (key keys.Break a ∷ ts) (line Break a.start f.a.end) x r (sym f.same) (record { s = key keys.Break a ∷ mark marks.Semicolon f.a ∷ []; parts = ap (λ (u : List Token). key keys.Break a ∷ u) f.parts; spelled = placed (broken_off a f.a); fits = omega arith; tail = λ o. absurd cc })

  continue_sound : (a : Span) (ts : List Token) (x : Stmt) (r : List Token) → ended_by Continue a.start ts ≡ Ok (x, r) → TookOpen SpellsStmt (suc d) (key keys.Continue a ∷ ts) x r
  continue_sound a ts x r h =
      let f = ended_is Continue a.start ts x r h in
      open_as SpellsStmt (suc d) (key keys.Continue a ∷ ts) (line Continue a.start f.a.end) x r (sym f.same) (record { s = key keys.Continue a ∷ mark marks.Semicolon f.a ∷ []; parts = ap (λ (u : List Token). key keys.Continue a ∷ u) f.parts; spelled = placed (continued a f.a); fits = omega arith; tail = λ o. absurd cc })

  goto_sound : (a : Span) (ts : List Token) (x : Stmt) (r : List Token) → goto_at below d a.start ts ≡ Ok (x, r) → TookOpen SpellsStmt (suc d) (key keys.Goto a ∷ ts) x r
  unfolding goto_at
  goto_sound a ts x r h =
      let n = bind_ok (expect_name ts) (λ n. ended_by (Goto n.0) a.start n.1) (x, r) h in
      let f = ended_is (Goto n.0.0) a.start n.0.1 x r n.2 in
      open_as SpellsStmt (suc d) (key keys.Goto a ∷ ts) (line (Goto n.0.0) a.start f.a.end) x r (sym f.same)
      (record { s = key keys.Goto a ∷ id n.0.0 ∷ mark marks.Semicolon f.a ∷ []; parts = ap (λ (u : List Token). key keys.Goto a ∷ u) (expect_name_is ts n.0.0 n.0.1 n.1 ∙ ap (λ (u : List Token). id n.0.0 ∷ u) f.parts); spelled = placed (gone_to n.0.0 a f.a); fits = omega arith; tail = λ o. absurd cc })

  return_sound : (a : Span) (ts : List Token) (x : Stmt) (r : List Token) → return_at below d a.start ts ≡ Ok (x, r) → TookOpen SpellsStmt (suc d) (key keys.Return a ∷ ts) x r
  unfolding return_at
  return_sound a ts x r h =
      let e = bind_ok (maybe_at d marks.Semicolon ts) (λ e. ended_by (Return e.0) a.start e.1) (x, r) h in
      let f = ended_is (Return e.0.0) a.start e.0.1 x r e.2 in
      let t = maybe_sound d marks.Semicolon ts e.0.0 e.0.1 e.1 in
      let m = mark marks.Semicolon f.a in
      let whole : List Token = key keys.Return a ∷ (t.s ++ m ∷ []) in
      open_as SpellsStmt (suc d) (key keys.Return a ∷ ts) (Line (Return e.0.0) (runs whole)) x r (sym f.same ∙ line_runs (Return e.0.0) a.start f.a.end whole refl (sym (last_token (key keys.Return a ∷ t.s) m)))
      (record { s = whole; parts = ap (λ (u : List Token). key keys.Return a ∷ u) (cut_at t.s [] m ts r r (t.parts ∙ ap (λ (u : List Token). t.s ++ u) f.parts) refl); spelled = placed (returned a f.a t.spelled); fits = omega (arith, t.fits); tail = λ o. absurd cc })

  eval_sound : (ts : List Token) (x : Stmt) (r : List Token) → TookEval d ts x r → TookOpen SpellsStmt (suc d) ts x r
  eval_sound ts x r t =
      let m = mark marks.Semicolon t.a in
      open_as SpellsStmt (suc d) ts (Line (Eval t.e) (runs (t.s ++ m ∷ []))) x r (sym t.same)
      (record { s = t.s ++ m ∷ []; parts = cut_at t.s [] m ts r r t.parts refl; spelled = placed (evaluated t.a t.spelled); fits = omega (arith, t.fits); tail = λ o. absurd cc })

  label_sound : (n : Name) (a c : Span) (ts : List Token) → a ≡ n.span → (x : Stmt) (r : List Token) → label_at below d n a.start ts ≡ Ok (x, r) → TookOpen SpellsStmt (suc d) (id n ∷ mark marks.Colon c ∷ ts) x r
  unfolding label_at
  label_sound n a c ts same x r h =
      let i = bind_ok (below ts) (λ y. done (line (Label n y.0) a.start (stmt_span y.0).end) y.1) (x, r) h in
      let us : List Token = id n ∷ mark marks.Colon c ∷ ts in
      open_done SpellsStmt (suc d) us x (line (Label n i.0.0) a.start (stmt_span i.0.0).end) r i.0.1
      (open_as SpellsStmt (suc d) us (line (Label n i.0.0) n.span.start (stmt_span i.0.0).end) (line (Label n i.0.0) a.start (stmt_span i.0.0).end) i.0.1
      (ap (λ (q : Span). line (Label n i.0.0) q.start (stmt_span i.0.0).end) same) (make_label d n c ts i.0.0 i.0.1 (ih ts i.0.0 i.0.1 i.1))) i.2

  after_sound : (o : Option Name) (e : Expr) (ts us : List Token) → bare_name e ≡ o → expressions.Took assignment d ts e us → (x : Stmt) (r : List Token) → after_at below d o e us ≡ Ok (x, r) → TookOpen SpellsStmt (suc d) ts x r
  unfolding after_at
  after_sound None e ts us is t x r h = eval_sound ts x r (evaluated_end_sound d e ts us t x r h)
  after_sound (Some n) e ts us is t x r h = elim (chosen (begins marks.Colon us) (label_at below d n (span_of e).start (rest us)) (evaluated_end e us) (Ok (x, r)) h) [
    | inl p ↦
        let w = bare_is t.spelled n is in
        let whole : ts ≡ id n ∷ mark marks.Colon (head_span us) ∷ rest us = t.parts ∙ (λ i. w.token i ++ begins_is marks.Colon us p.0 i) in
        open_at SpellsStmt (suc d) ts (id n ∷ mark marks.Colon (head_span us) ∷ rest us) x r whole (label_sound n (span_of e) (head_span us) (rest us) w.place x r p.1)
    | inr p ↦ eval_sound ts x r (evaluated_end_sound d e ts us t x r p.1)
  ]

  plain_sound : SoundOpen SpellsStmt (suc d) (plain_at below d)
  unfolding plain_at
  plain_sound ts x r h =
      let i = bind_ok (read d assignment ts) (λ e. after_at below d (bare_name e.0) e.0 e.1) (x, r) h in
      after_sound (bare_name i.0.0) i.0.0 ts i.0.1 refl (expressions.sound d assignment ts i.0.0 i.0.1 i.1) x r i.2

  empty_sound : (a : Span) (ts us : List Token) → ts ≡ mark marks.Semicolon a ∷ us → (x : Stmt) (r : List Token) → done (Line Empty a) us ≡ Ok (x, r) → TookOpen SpellsStmt (suc d) ts x r
  empty_sound a ts us is x r h = open_done SpellsStmt (suc d) ts x (Line Empty a) r us (record { s = mark marks.Semicolon a ∷ []; parts = is; spelled = placed (empty a); fits = omega arith; tail = λ o. absurd cc }) h

  inner_is : (p : ℕ → List Token → Answer Stmt) (ts : List Token) (x : Stmt) (r : List Token) → inner below d p ts ≡ Ok (x, r) → p (head_span ts).start (rest ts) ≡ Ok (x, r)
  unfolding inner
  inner_is p ts x r h = elim (chosen (nat_le 1 d) (p (head_span ts).start (rest ts)) (Err (length ts)) (Ok (x, r)) h) [
    | inl q ↦ q.1
    | inr q ↦ absurd (cc q.1)
  ]

  stmt_by_sound : (o : Opening) (ts : List Token) → Means o ts → (x : Stmt) (r : List Token) → stmt_by below d o ts ≡ Ok (x, r) → TookOpen SpellsStmt (suc d) ts x r
  unfolding stmt_by outer empty_at
  stmt_by_sound openings.Brace ts is x r h = open_at SpellsStmt (suc d) ts (mark marks.OpenBrace (head_span ts) ∷ rest ts) x r is (block_sound (head_span ts) (rest ts) x r h)
  stmt_by_sound openings.Semicolon ts is x r h = empty_sound (head_span ts) ts (rest ts) is x r h
  stmt_by_sound openings.If ts is x r h = open_at SpellsStmt (suc d) ts (key keys.If (head_span ts) ∷ rest ts) x r is (if_sound (head_span ts) (rest ts) x r (inner_is (if_at below d) ts x r h))
  stmt_by_sound openings.While ts is x r h = open_at SpellsStmt (suc d) ts (key keys.While (head_span ts) ∷ rest ts) x r is (while_sound (head_span ts) (rest ts) x r (inner_is (while_at below d) ts x r h))
  stmt_by_sound openings.Do ts is x r h = open_at SpellsStmt (suc d) ts (key keys.Do (head_span ts) ∷ rest ts) x r is (do_sound (head_span ts) (rest ts) x r (inner_is (do_at below d) ts x r h))
  stmt_by_sound openings.For ts is x r h = open_at SpellsStmt (suc d) ts (key keys.For (head_span ts) ∷ rest ts) x r is (for_sound (head_span ts) (rest ts) x r (inner_is (for_at below d) ts x r h))
  stmt_by_sound openings.Switch ts is x r h = open_at SpellsStmt (suc d) ts (key keys.Switch (head_span ts) ∷ rest ts) x r is (switch_sound (head_span ts) (rest ts) x r (inner_is (switch_at below d) ts x r h))
  stmt_by_sound openings.Break ts is x r h = open_at SpellsStmt (suc d) ts (key keys.Break (head_span ts) ∷ rest ts) x r is (break_sound (head_span ts) (rest ts) x r h)
  stmt_by_sound openings.Continue ts is x r h = open_at SpellsStmt (suc d) ts (key keys.Continue (head_span ts) ∷ rest ts) x r is (continue_sound (head_span ts) (rest ts) x r h)
  stmt_by_sound openings.Goto ts is x r h = open_at SpellsStmt (suc d) ts (key keys.Goto (head_span ts) ∷ rest ts) x r is (goto_sound (head_span ts) (rest ts) x r h)
  stmt_by_sound openings.Return ts is x r h = open_at SpellsStmt (suc d) ts (key keys.Return (head_span ts) ∷ rest ts) x r is (return_sound (head_span ts) (rest ts) x r h)
  stmt_by_sound openings.Plain ts is x r h = plain_sound ts x r h

  stmt_at_sound : SoundOpen SpellsStmt (suc d) (stmt_at below d)
  unfolding stmt_at
  stmt_at_sound ts x r h = stmt_by_sound (opening_at ts) ts (opening_means ts (opening_at ts) refl) x r h

pub stmt_sound : (d : ℕ) → SoundOpen SpellsStmt d (read_stmt d)
unfolding read_stmt
stmt_sound zero ts x r h = absurd cc
stmt_sound (suc d) ts x r h = stmt_at_sound (read_stmt d) d (stmt_sound d) ts x r h

pub read_line_sound : (d : ℕ) → Sound Stmt SpellsLine stmt_depth d (read_line d)
unfolding read_line
read_line_sound d = closed SpellsLine d (line_by (read_stmt d) d) (line_sound d (read_stmt d) (stmt_sound d))

pub line_shorter : (d : ℕ) (p : List Token → Answer Stmt) → SoundOpen SpellsStmt d p → Shorter Stmt (line_by p d)
line_shorter d p h = took_shorter Stmt SpellsLine stmt_depth d (line_by p d) (closed SpellsLine d (line_by p d) (line_sound d p h)) (λ x s k. line_some k)

pub switch_line_shorter : (d : ℕ) (p : List Token → Answer Stmt) → SoundOpen SpellsStmt d p → Shorter Stmt (switch_line_by p d)
switch_line_shorter d p h = took_shorter Stmt SpellsSwitchLine stmt_depth d (switch_line_by p d) (closed SpellsSwitchLine d (switch_line_by p d) (switch_line_sound d p h)) (λ x s k. switch_line_some k)

pub read_line_shorter : (d : ℕ) → Shorter Stmt (read_line d)
unfolding read_line
read_line_shorter d = line_shorter d (read_stmt d) (stmt_sound d)
