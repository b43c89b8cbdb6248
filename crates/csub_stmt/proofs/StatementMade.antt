-- A statement whose parts were read is spelled so, within the depth.
use Rattle.std.proofs.Common.{◌≡◌, ℕ, suc, ◌<◌, List, [], ◌∷◌, ◌++◌, length, Option, Bool, true, false, refl, sym, ap, ◌∙◌, arith, append_assoc, length-append}
use Rattle.csub_text.specs.declared.span.Span.{Span}
use Rattle.csub_lex.specs.declared.token.Key.TheVariants as keys
use Rattle.csub_lex.specs.declared.token.Mark.TheVariants as marks
use Rattle.csub_lex.specs.declared.token.Token.{Token}
use Rattle.csub_tree.specs.declared.name.Name.{Name}
use Rattle.csub_tree.specs.Expressions.{Expr}
use Rattle.csub_tree.specs.Statements.{Stmt, Perhaps, Line, If, While, Do, For, Label, NoStmt, OneStmt}
use Rattle.csub_tree.specs.Depth.{if_there, expr_depth, perhaps_depth}
use Rattle.csub_tree.specs.Tokens.{mark, key, id, last, runs}
use Rattle.csub_tree.specs.SpellsStatements.{ends_open, SpellsMaybe, SpellsFirst, SpellsStmt, labelled, if_alone, if_else, while_loop, do_loop, for_loop, placed}
use Rattle.csub_expr.specs.Looks.{begins_key}
use Rattle.csub_expr.proofs.LawsTokens.{last_behind}
use Rattle.csub_stmt.specs.StatementDescent.{stmt_span, line}
use Rattle.csub_stmt.proofs.LawsTakes.{Took, cut_two, cut_at, cut_first}
use Rattle.csub_stmt.proofs.StatementShapes.{stmt_some, stmt_spanned, line_runs, end_of}
use Rattle.csub_stmt.proofs.StatementParts.{TookOpen, TookTest, after_test, open_as}

pub make_if : (d : ℕ) (a : Span) (ts us : List Token) (e : Expr) (x : Stmt) (r : List Token) → TookTest d ts e us → TookOpen SpellsStmt d us x r → begins_key keys.Else r ≡ false
    → TookOpen SpellsStmt (suc d) (key keys.If a ∷ ts) (line (If e x NoStmt) a.start (stmt_span x).end) r
make_if d a ts us e x r p t no_else =
    let o = mark marks.OpenParen p.a in
    let c = mark marks.CloseParen p.b in
    let whole : List Token = key keys.If a ∷ o ∷ (p.s ++ c ∷ t.s) in
    open_as SpellsStmt (suc d) (key keys.If a ∷ ts) (Line (If e x NoStmt) (runs whole)) (line (If e x NoStmt) a.start (stmt_span x).end) r
    (line_runs (If e x NoStmt) a.start (stmt_span x).end whole refl (end_of x t.s (stmt_spanned t.spelled) ∙ sym (last_behind (key keys.If a ∷ o ∷ p.s) c t.s (stmt_some t.spelled))))
    (record { s = whole; parts = after_test d (key keys.If a) ts us e p t.s r t.parts; spelled = placed (if_alone a p.a p.b p.spelled t.spelled); fits = omega (arith, p.fits, t.fits); tail = λ o. no_else })

pub make_else : (d : ℕ) (a l : Span) (ts us vs : List Token) (e : Expr) (x y : Stmt) (r : List Token) → TookTest d ts e us → TookOpen SpellsStmt d us x (key keys.Else l ∷ vs) → TookOpen SpellsStmt d vs y r
    → TookOpen SpellsStmt (suc d) (key keys.If a ∷ ts) (line (If e x (OneStmt y)) a.start (stmt_span y).end) r
unfolding begins_key
make_else d a l ts us vs e x y r p t q =
    let o = mark marks.OpenParen p.a in
    let c = mark marks.CloseParen p.b in
    let k = key keys.Else l in
    let whole : List Token = key keys.If a ∷ o ∷ (p.s ++ c ∷ (t.s ++ k ∷ q.s)) in
    let shut : ends_open x ≡ false = go (ends_open x) t.tail in
    open_as SpellsStmt (suc d) (key keys.If a ∷ ts) (Line (If e x (OneStmt y)) (runs whole)) (line (If e x (OneStmt y)) a.start (stmt_span y).end) r
    (line_runs (If e x (OneStmt y)) a.start (stmt_span y).end whole refl
    (end_of y q.s (stmt_spanned q.spelled) ∙ sym (last_behind (key keys.If a ∷ o ∷ p.s) c (t.s ++ k ∷ q.s) (omega (arith, length-append t.s (k ∷ q.s))) ∙ last_behind t.s k q.s (stmt_some q.spelled))))
    (record {
      s = whole;
      parts = after_test d (key keys.If a) ts us e p (t.s ++ k ∷ q.s) r (cut_at t.s q.s k us vs r t.parts q.parts);
      spelled = placed (if_else a p.a p.b l p.spelled t.spelled shut q.spelled);
      fits = omega (arith, p.fits, t.fits, q.fits);
      tail = q.tail;
    })
  where
    go : (o : Bool) → (o ≡ true → true ≡ false) → o ≡ false
    go true h = h refl
    go false h = refl

pub make_while : (d : ℕ) (a : Span) (ts us : List Token) (e : Expr) (x : Stmt) (r : List Token) → TookTest d ts e us → TookOpen SpellsStmt d us x r
    → TookOpen SpellsStmt (suc d) (key keys.While a ∷ ts) (line (While e x) a.start (stmt_span x).end) r
make_while d a ts us e x r p t =
    let o = mark marks.OpenParen p.a in
    let c = mark marks.CloseParen p.b in
    let whole : List Token = key keys.While a ∷ o ∷ (p.s ++ c ∷ t.s) in
    open_as SpellsStmt (suc d) (key keys.While a ∷ ts) (Line (While e x) (runs whole)) (line (While e x) a.start (stmt_span x).end) r
    (line_runs (While e x) a.start (stmt_span x).end whole refl (end_of x t.s (stmt_spanned t.spelled) ∙ sym (last_behind (key keys.While a ∷ o ∷ p.s) c t.s (stmt_some t.spelled))))
    (record { s = whole; parts = after_test d (key keys.While a) ts us e p t.s r t.parts; spelled = placed (while_loop a p.a p.b p.spelled t.spelled); fits = omega (arith, p.fits, t.fits); tail = t.tail })

pub make_do : (d : ℕ) (a w f : Span) (ts us vs : List Token) (e : Expr) (x : Stmt) (r : List Token) → TookOpen SpellsStmt d ts x (key keys.While w ∷ us) → TookTest d us e vs → vs ≡ mark marks.Semicolon f ∷ r
    → TookOpen SpellsStmt (suc d) (key keys.Do a ∷ ts) (line (Do x e) a.start f.end) r
make_do d a w f ts us vs e x r t p ends =
    let o = mark marks.OpenParen p.a in
    let c = mark marks.CloseParen p.b in
    let m = mark marks.Semicolon f in
    let k = key keys.While w in
    let whole : List Token = key keys.Do a ∷ (t.s ++ k ∷ o ∷ (p.s ++ c ∷ m ∷ [])) in
    open_as SpellsStmt (suc d) (key keys.Do a ∷ ts) (Line (Do x e) (runs whole)) (line (Do x e) a.start f.end) r
    (line_runs (Do x e) a.start f.end whole refl (sym (last_behind (key keys.Do a ∷ t.s) k (o ∷ (p.s ++ c ∷ m ∷ [])) (omega arith) ∙ last_behind (o ∷ p.s) c (m ∷ []) (omega arith))))
    (record {
      s = whole;
      parts = ap (λ (u : List Token). key keys.Do a ∷ u) (cut_two t.s (k ∷ o ∷ (p.s ++ c ∷ m ∷ [])) ts (k ∷ us) r t.parts (after_test d k us vs e p (m ∷ []) r ends));
      spelled = placed (do_loop a w p.a p.b f t.spelled p.spelled);
      fits = omega (arith, p.fits, t.fits);
      tail = λ o. absurd cc;
    })

pub make_for : (d : ℕ) (a b c g : Span) (ts u₁ u₂ u₃ u₄ : List Token) (p : Perhaps) (e f : Option Expr) (x : Stmt) (r : List Token)
    → ts ≡ mark marks.OpenParen b ∷ u₁ → Took Perhaps SpellsFirst perhaps_depth d u₁ p u₂ → Took (Option Expr) SpellsMaybe (if_there expr_depth) d u₂ e (mark marks.Semicolon c ∷ u₃)
    → Took (Option Expr) SpellsMaybe (if_there expr_depth) d u₃ f (mark marks.CloseParen g ∷ u₄) → TookOpen SpellsStmt d u₄ x r
    → TookOpen SpellsStmt (suc d) (key keys.For a ∷ ts) (line (For p e f x) a.start (stmt_span x).end) r
make_for d a b c g ts u₁ u₂ u₃ u₄ p e f x r opens hp he hf t =
    let k = key keys.For a in
    let o = mark marks.OpenParen b in
    let m = mark marks.Semicolon c in
    let n = mark marks.CloseParen g in
    let third : List Token = hf.s ++ n ∷ t.s in
    let second : List Token = he.s ++ m ∷ third in
    let whole : List Token = k ∷ o ∷ (hp.s ++ second) in
    let some_third : 0 < length third = omega (arith, length-append hf.s (n ∷ t.s)) in
    let last_whole : last whole ≡ last t.s = ap last (sym (append_assoc (k ∷ o ∷ hp.s) he.s (m ∷ third))) ∙ last_behind ((k ∷ o ∷ hp.s) ++ he.s) m third some_third ∙ last_behind hf.s n t.s (stmt_some t.spelled) in
    open_as SpellsStmt (suc d) (k ∷ ts) (Line (For p e f x) (runs whole)) (line (For p e f x) a.start (stmt_span x).end) r
    (line_runs (For p e f x) a.start (stmt_span x).end whole refl (end_of x t.s (stmt_spanned t.spelled) ∙ sym last_whole))
    (record {
      s = whole;
      parts = ap (λ (u : List Token). k ∷ u) (cut_first (hp.s ++ second) o ts u₁ r opens (cut_two hp.s second u₁ u₂ r hp.parts (cut_at he.s third m u₂ u₃ r he.parts (cut_at hf.s t.s n u₃ u₄ r hf.parts t.parts))));
      spelled = placed (for_loop a b c g hp.spelled he.spelled hf.spelled t.spelled);
      fits = omega (arith, hp.fits, he.fits, hf.fits, t.fits);
      tail = t.tail;
    })

pub make_label : (d : ℕ) (n : Name) (c : Span) (ts : List Token) (x : Stmt) (r : List Token) → TookOpen SpellsStmt d ts x r
    → TookOpen SpellsStmt (suc d) (id n ∷ mark marks.Colon c ∷ ts) (line (Label n x) n.span.start (stmt_span x).end) r
make_label d n c ts x r t =
    let m = mark marks.Colon c in
    open_as SpellsStmt (suc d) (id n ∷ m ∷ ts) (Line (Label n x) (runs (id n ∷ m ∷ t.s))) (line (Label n x) n.span.start (stmt_span x).end) r
    (line_runs (Label n x) n.span.start (stmt_span x).end (id n ∷ m ∷ t.s) refl (end_of x t.s (stmt_spanned t.spelled) ∙ sym (last_behind (id n ∷ []) m t.s (stmt_some t.spelled))))
    (record { s = id n ∷ m ∷ t.s; parts = ap (λ (u : List Token). id n ∷ m ∷ u) t.parts; spelled = placed (labelled n c t.spelled); fits = omega (arith, t.fits); tail = t.tail })
