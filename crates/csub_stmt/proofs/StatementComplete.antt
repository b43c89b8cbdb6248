-- A statement that is spelled so is read, whatever follows, but no `else` behind an `if` that has none.
use Rattle.std.proofs.Common.{◌≡◌, ℕ, zero, suc, ◌<◌, ◌≤◌, List, [], ◌∷◌, ◌++◌, length, Option, Some, None, Ok, Bool, true, false, refl, sym, ap, ◌∙◌, arith, append_assoc, length-append}
use Rattle.std.proofs.lemmas.Bool.{le-leb}
use Rattle.csub_text.specs.declared.span.Span.{Span}
use Rattle.csub_lex.specs.declared.token.Key.TheVariants as keys
use Rattle.csub_lex.specs.declared.token.Mark.TheVariants as marks
use Rattle.csub_lex.specs.declared.token.Token.{Token}
use Rattle.csub_tree.specs.declared.name.Name.{Name}
use Rattle.csub_tree.specs.Expressions.{Expr, Node, Named, span_of}
use Rattle.csub_tree.specs.Declarations.{Declare}
use Rattle.csub_tree.specs.Statements.{Stmt, StmtKind, Stmts, Perhaps, Line, Declared, Eval, Empty, Block, If, While, Do, For, Switch, Case, Default, Break, Continue, Goto, Label, Return, NoStmt, OneStmt, NoStmts, MoreStmts, stmts_of}
use Rattle.csub_tree.specs.Depth.{if_there, expr_depth, declare_depth, stmt_depth, stmts_depth, perhaps_depth}
use Rattle.csub_tree.specs.Tokens.{mark, key, id, last, runs}
use Rattle.csub_tree.specs.Lists.{missing, present}
use Rattle.csub_tree.specs.SpellsExpressions.{SpellsExpr, assignment, conditional, no_assignment, no_choice, tighter, no_prefix, no_postfix, named}
use Rattle.csub_tree.specs.SpellsDeclarations.{SpellsDecl}
use Rattle.csub_tree.specs.SpellsStatements.{ends_open, SpellsMaybe, SpellsFirst, first_declared, first_evaluated, first_empty, SpellsStmt, block, empty, evaluated, labelled, if_alone, if_else, while_loop, do_loop, for_loop, switched, broken_off, continued, gone_to, returned, SpellsLine, declaring, stating, SpellsLines, no_lines, more_lines, SpellsSwitchLine, plain_line, case_label, default_label, SpellsSwitchLines, no_switch_lines, more_switch_lines, label_line, placed, SpellsKind}
use Rattle.csub_stmt.specs.declared.opening.Opening.{Opening}
use Rattle.csub_stmt.specs.declared.opening.Opening.TheVariants as openings
use Rattle.csub_expr.specs.Looks.{begins, begins_key, rest, head_span}
use Rattle.csub_expr.specs.Answers.{Answer, done, expect, expect_name}
use Rattle.csub_expr.specs.ListDescent.{repeated}
use Rattle.csub_expr.proofs.LawsExpressions as spelled
use Rattle.csub_expr.proofs.LawsExpressions.{Lead, lead, lead_no_key, lead_no_number, lead_no_mark, by_prefix, by_open, by_name, by_number, by_character, by_string}
use Rattle.csub_expr.proofs.LawsTokens.{first_append, last_token, last_behind, nonempty_append}
use Rattle.csub_stmt.specs.Openings.{opening_at}
use Rattle.csub_stmt.specs.StatementDescent.{stmt_span, line, bare_name, expect_key, maybe_at, declared_at, evaluated_end, evaluated_at, first_at, line_by, case_at, default_at, switch_line_by, ended_by, test_at, block_at, else_at, if_at, while_at, do_at, for_body, for_parts, for_at, switch_body, switch_at, goto_at, return_at, label_at, after_at, plain_at, inner, outer, empty_at, stmt_by, stmt_at, read_stmt}
use Rattle.csub_stmt.proofs.ExpressionEnds.{assignment_reads, conditional_reads, ends_semicolon, ends_paren, ends_colon, stops_colon}
use Rattle.csub_stmt.proofs.LawsSequences.{repeated_ends, repeated_goes}
use Rattle.csub_stmt.proofs.DeclarationOpens.{decl_opens}
use Rattle.csub_stmt.proofs.DeclarationComplete.{decl_reads}
use Rattle.csub_stmt.proofs.StatementShapes.{stmt_some, stmt_spanned, decl_spanned, line_some, switch_line_some, line_runs, end_of, stmt_deep}
use Rattle.csub_stmt.proofs.StatementOpens.{Opens, lead_plain, line_opens, lines_no_else, stmt_words, switch_line_opens, switch_no_else}

-- lines as a list
abbrev pub list_of : Stmts → List Stmt
list_of NoStmts = []
list_of (MoreStmts x xs) = x ∷ list_of xs

pub list_again : (xs : Stmts) → stmts_of (list_of xs) ≡ xs
list_again NoStmts = refl
list_again (MoreStmts x xs) = ap (λ (ys : Stmts). MoreStmts x ys) (list_again xs)

-- no `else` follows that the statement wants
abbrev pub NoElse : Stmt → List Token → Type 0
NoElse x r = ends_open x ≡ true → begins_key keys.Else r ≡ false

abbrev pub ReadsBy : (List Token → Answer Stmt) → Stmt → List Token → Type 0
ReadsBy p x s = (r : List Token) → NoElse x r → p (s ++ r) ≡ Ok (x, r)

abbrev pub ReadsStmt : Stmt → List Token → Type 0
ReadsStmt x s = (d : ℕ) → stmt_depth x ≤ d → ReadsBy (read_stmt d) x s

abbrev pub ReadsLine : Stmt → List Token → Type 0
ReadsLine x s = (d : ℕ) → stmt_depth x ≤ d → ReadsBy (line_by (read_stmt d) d) x s

abbrev pub ReadsSwitchLine : Stmt → List Token → Type 0
ReadsSwitchLine x s = (d : ℕ) → stmt_depth x ≤ d → ReadsBy (switch_line_by (read_stmt d) d) x s

abbrev pub ReadsLines : Stmts → List Token → Type 0
ReadsLines xs s = (d : ℕ) → stmts_depth xs ≤ d → (f : ℕ) → length s < f → (r : List Token) → begins marks.CloseBrace r ≡ true → repeated (line_by (read_stmt d) d) (begins marks.CloseBrace) f (s ++ r) ≡ Ok (list_of xs, r)

abbrev pub ReadsSwitchLines : Stmts → List Token → Type 0
ReadsSwitchLines xs s = (d : ℕ) → stmts_depth xs ≤ d → (f : ℕ) → length s < f → (r : List Token) → begins marks.CloseBrace r ≡ true → repeated (switch_line_by (read_stmt d) d) (begins marks.CloseBrace) f (s ++ r) ≡ Ok (list_of xs, r)

reads_more : (p : List Token → Answer Stmt) (x : Stmt) (xs : Stmts) (s t : List Token) → ReadsBy p x s → 0 < length s → ((r : List Token) → Opens (s ++ r)) → (r : List Token) → begins_key keys.Else (t ++ r) ≡ false
    → ((f : ℕ) → length t < f → repeated p (begins marks.CloseBrace) f (t ++ r) ≡ Ok (list_of xs, r)) → (f : ℕ) → length (s ++ t) < f → repeated p (begins marks.CloseBrace) f ((s ++ t) ++ r) ≡ Ok (x ∷ list_of xs, r)
reads_more p x xs s t h some opens r no_else more zero lt = elim lt [ ]
reads_more p x xs s t h some opens r no_else more (suc f) lt =
    rw (append_assoc s t r) (repeated_goes p (begins marks.CloseBrace) f (s ++ (t ++ r)) x (t ++ r) (list_of xs) r (opens (t ++ r)).no_close (h (t ++ r) (λ o. no_else)) (more f (omega (arith, length-append s t))))

-- how `stmt_by` is reached
by_opening : (d : ℕ) (ts : List Token) (o : Opening) → opening_at ts ≡ o → read_stmt (suc d) ts ≡ stmt_by (read_stmt d) d o ts
unfolding read_stmt stmt_at
by_opening d ts o e = rw e refl

inner_on : (below : List Token → Answer Stmt) (d : ℕ) (p : ℕ → List Token → Answer Stmt) (t : Token) (ts : List Token) → 1 ≤ d → inner below d p (t ∷ ts) ≡ p t.span.start ts
unfolding inner head_span rest
inner_on below d p t ts some = rw (le-leb 1 d some) refl

outer_on : (below : List Token → Answer Stmt) (d : ℕ) (p : ℕ → List Token → Answer Stmt) (t : Token) (ts : List Token) → outer below d p (t ∷ ts) ≡ p t.span.start ts
unfolding outer head_span rest
outer_on below d p t ts = refl

reads_test : (below : List Token → Answer Stmt) (d : ℕ) {e : Expr} {s : List Token} → SpellsExpr assignment e s → expr_depth e ≤ d → (a b : Span) (r : List Token) → test_at below d (mark marks.OpenParen a ∷ (s ++ mark marks.CloseParen b ∷ r)) ≡ Ok (e, r)
unfolding test_at expect begins rest head_span
reads_test below d h fits a b r = rw (assignment_reads h d fits (mark marks.CloseParen b ∷ r) (ends_paren b r)) refl

reads_semicolon : (d : ℕ) {e : Option Expr} {s : List Token} → SpellsMaybe e s → if_there expr_depth e ≤ d → (a : Span) (r : List Token) → maybe_at d marks.Semicolon (s ++ mark marks.Semicolon a ∷ r) ≡ Ok (e, mark marks.Semicolon a ∷ r)
unfolding maybe_at begins
reads_semicolon d missing fits a r = refl
reads_semicolon d (present h) fits a r =
    let m = mark marks.Semicolon a in
    rw (begins, (lead_plain (lead h (m ∷ r))).no_semicolon, assignment_reads h d fits (m ∷ r) (ends_semicolon a r)) refl

reads_paren : (d : ℕ) {e : Option Expr} {s : List Token} → SpellsMaybe e s → if_there expr_depth e ≤ d → (a : Span) (r : List Token) → maybe_at d marks.CloseParen (s ++ mark marks.CloseParen a ∷ r) ≡ Ok (e, mark marks.CloseParen a ∷ r)
unfolding maybe_at begins
reads_paren d missing fits a r = refl
reads_paren d (present h) fits a r =
    let m = mark marks.CloseParen a in
    rw (begins, (lead_plain (lead h (m ∷ r))).no_paren, assignment_reads h d fits (m ∷ r) (ends_paren a r)) refl

reads_end : (e : Expr) (s : List Token) (a : Span) (r : List Token) → SpellsExpr assignment e s → evaluated_end e (mark marks.Semicolon a ∷ r) ≡ Ok (Line (Eval e) (runs (s ++ mark marks.Semicolon a ∷ [])), r)
unfolding evaluated_end expect begins rest head_span
reads_end e s a r h =
    let m = mark marks.Semicolon a in
    ap (λ (x : Stmt). done x r) (line_runs (Eval e) (span_of e).start a.end (s ++ m ∷ []) (ap (λ (y : Span). y.start) (spelled.spanned h) ∙ sym (first_append s (m ∷ []) (spelled.nonempty h))) (sym (last_token s m)))

reads_evaluated : (d : ℕ) (e : Expr) (s : List Token) (a : Span) → SpellsExpr assignment e s → expr_depth e ≤ d → (r : List Token) → evaluated_at d (s ++ mark marks.Semicolon a ∷ r) ≡ Ok (Line (Eval e) (runs (s ++ mark marks.Semicolon a ∷ [])), r)
unfolding evaluated_at
reads_evaluated d e s a h fits r = rw (assignment_reads h d fits (mark marks.Semicolon a ∷ r) (ends_semicolon a r)) (reads_end e s a r h)

reads_declared : (d : ℕ) (y : Declare) (s : List Token) → SpellsDecl y s → declare_depth y ≤ d → (r : List Token) → declared_at d (s ++ r) ≡ Ok (Line (Declared y) (runs s), r)
unfolding declared_at
reads_declared d y s h fits r = rw (decl_reads d y s h fits r) (ap (λ (sp : Span). done (Line (Declared y) sp) r) (decl_spanned h))

reads_first : (d : ℕ) {p : Perhaps} {s : List Token} → SpellsFirst p s → perhaps_depth p ≤ d → (r : List Token) → first_at d (s ++ r) ≡ Ok (p, r)
unfolding first_at begins rest
reads_first zero (first_declared h) fits r = absurd (omega (arith, fits))
reads_first (suc d) (first_declared {d = y} {s = s} h) fits r =
    let b = decl_opens h r in
    rw (begins, b.no_semicolon, b.is_base, reads_declared d y s h (omega (arith, fits)) r) refl
reads_first zero (first_evaluated a h) fits r = absurd (omega (arith, fits))
reads_first (suc d) (first_evaluated {e = e} {s = s} a h) fits r =
    let m = mark marks.Semicolon a in
    let p = lead_plain (lead h (m ∷ r)) in
    rw (append_assoc s (m ∷ []) r, begins, p.no_semicolon, p.no_base, reads_evaluated d e s a h (omega (arith, fits)) r) refl
reads_first zero (first_empty a) fits r = refl
reads_first (suc d) (first_empty a) fits r = refl

reads_block : (xs : Stmts) (s : List Token) (a b : Span) → ReadsLines xs s → ReadsStmt (Line (Block xs) (runs (mark marks.OpenBrace a ∷ (s ++ mark marks.CloseBrace b ∷ [])))) (mark marks.OpenBrace a ∷ (s ++ mark marks.CloseBrace b ∷ []))
unfolding read_stmt stmt_at opening_at stmt_by outer block_at expect begins rest head_span
reads_block xs s a b h zero fits r ends = absurd (omega (arith, fits))
reads_block xs s a b h (suc d) fits r ends =
    let o = mark marks.OpenBrace a in
    let c = mark marks.CloseBrace b in
    let all = h d (omega (arith, fits)) (suc (length (s ++ (c ∷ r)))) (omega (arith, length-append s (c ∷ r))) (c ∷ r) refl in
    rw (append_assoc s (c ∷ []) r, all, list_again xs, line_runs (Block xs) a.start b.end (o ∷ (s ++ c ∷ [])) refl (sym (last_token (o ∷ s) c))) refl

reads_empty : (a : Span) → ReadsStmt (Line Empty a) (mark marks.Semicolon a ∷ [])
unfolding read_stmt stmt_at opening_at stmt_by empty_at rest head_span
reads_empty a zero fits r ends = absurd (omega (arith, fits))
reads_empty a (suc d) fits r ends = refl

after_end : (o : Option Name) (below : List Token → Answer Stmt) (d : ℕ) (e : Expr) (ts : List Token) → begins marks.Colon ts ≡ false → after_at below d o e ts ≡ evaluated_end e ts
unfolding after_at
after_end None below d e ts h = refl
after_end (Some n) below d e ts h = rw h refl

reads_eval : (e : Expr) (s : List Token) (a : Span) → SpellsExpr assignment e s → ReadsStmt (Line (Eval e) (runs (s ++ mark marks.Semicolon a ∷ []))) (s ++ mark marks.Semicolon a ∷ [])
unfolding stmt_by plain_at begins
reads_eval e s a h zero fits r ends = absurd (omega (arith, fits))
reads_eval e s a h (suc d) fits r ends =
    let m = mark marks.Semicolon a in
    let p = lead_plain (lead h (m ∷ r)) in
    rw (append_assoc s (m ∷ []) r, by_opening d (s ++ (m ∷ r)) openings.Plain p.opens, assignment_reads h d (omega (arith, fits)) (m ∷ r) (ends_semicolon a r), after_end (bare_name e) (read_stmt d) d e (m ∷ r) refl) (reads_end e s a r h)

name_spelled : (n : Name) → SpellsExpr assignment (Node (Named n) n.span) (id n ∷ [])
name_spelled n = no_assignment (no_choice (tighter (tighter (tighter (tighter (tighter (tighter (tighter (tighter (tighter (tighter (no_prefix (no_postfix (named n))))))))))))))

reads_label : (n : Name) (a : Span) (x : Stmt) (s : List Token) → ReadsStmt x s → SpellsStmt x s → ReadsStmt (Line (Label n x) (runs (id n ∷ mark marks.Colon a ∷ s))) (id n ∷ mark marks.Colon a ∷ s)
unfolding read_stmt stmt_at opening_at stmt_by plain_at after_at label_at begins rest
reads_label n a x s h k zero fits r ends = absurd (omega (arith, fits))
reads_label n a x s h k (suc d) fits r ends =
    let m = mark marks.Colon a in
    rw (
      assignment_reads (name_spelled n) d (omega (arith, fits, stmt_deep x)) (m ∷ (s ++ r)) (ends_colon a (s ++ r)),
      h d (omega (arith, fits)) r ends,
      line_runs (Label n x) n.span.start (stmt_span x).end (id n ∷ m ∷ s) refl (end_of x s (stmt_spanned k) ∙ sym (last_behind (id n ∷ []) m s (stmt_some k))),
    ) refl

-- an `if` is read up to its first statement, and what stands behind that decides
reads_if_at : (d : ℕ) (e : Expr) (x : Stmt) (s t : List Token) (a b c : Span) → SpellsExpr assignment e s → expr_depth e ≤ d → ReadsStmt x t → stmt_depth x ≤ d → (r : List Token) → NoElse x r
    → read_stmt (suc d) (key keys.If a ∷ mark marks.OpenParen b ∷ (s ++ mark marks.CloseParen c ∷ (t ++ r))) ≡ else_at (read_stmt d) d a.start e x r
unfolding read_stmt stmt_at opening_at stmt_by inner if_at rest head_span
reads_if_at d e x s t a b c h fits_e hx fits_x r ends = rw (le-leb 1 d (omega (arith, fits_x, stmt_deep x)), reads_test (read_stmt d) d h fits_e b c (t ++ r), hx d fits_x r ends) refl

reads_if : (e : Expr) (x : Stmt) (s t : List Token) (a b c : Span) → SpellsExpr assignment e s → ReadsStmt x t → SpellsStmt x t
    → ReadsStmt (Line (If e x NoStmt) (runs (key keys.If a ∷ mark marks.OpenParen b ∷ (s ++ mark marks.CloseParen c ∷ t)))) (key keys.If a ∷ mark marks.OpenParen b ∷ (s ++ mark marks.CloseParen c ∷ t))
unfolding else_at
reads_if e x s t a b c h hx k zero fits r ends = absurd (omega (arith, fits))
reads_if e x s t a b c h hx k (suc d) fits r ends =
    let m = mark marks.CloseParen c in
    let o = mark marks.OpenParen b in
    rw (
      append_assoc s (m ∷ t) r,
      reads_if_at d e x s t a b c h (omega (arith, fits)) hx (omega (arith, fits)) r (λ p. ends refl),
      ends refl,
      line_runs (If e x NoStmt) a.start (stmt_span x).end (key keys.If a ∷ o ∷ (s ++ m ∷ t)) refl (end_of x t (stmt_spanned k) ∙ sym (last_behind (key keys.If a ∷ o ∷ s) m t (stmt_some k))),
    ) refl

false_true : (b : Bool) → b ≡ false → b ≡ true → ⊥
false_true true p q = absurd cc
false_true false p q = absurd cc

reads_else : (e : Expr) (x y : Stmt) (s t u : List Token) (a b c l : Span) → SpellsExpr assignment e s → ReadsStmt x t → ends_open x ≡ false → ReadsStmt y u → SpellsStmt y u
    → ReadsStmt (Line (If e x (OneStmt y)) (runs (key keys.If a ∷ mark marks.OpenParen b ∷ (s ++ mark marks.CloseParen c ∷ (t ++ key keys.Else l ∷ u))))) (key keys.If a ∷ mark marks.OpenParen b ∷ (s ++ mark marks.CloseParen c ∷ (t ++ key keys.Else l ∷ u)))
unfolding else_at begins_key rest
reads_else e x y s t u a b c l h hx shut hy k zero fits r ends = absurd (omega (arith, fits))
reads_else e x y s t u a b c l h hx shut hy k (suc d) fits r ends =
    let m = mark marks.CloseParen c in
    let o = mark marks.OpenParen b in
    let w = key keys.Else l in
    let shape : (s ++ m ∷ (t ++ w ∷ u)) ++ r ≡ s ++ (m ∷ (t ++ (w ∷ (u ++ r)))) = append_assoc s (m ∷ (t ++ w ∷ u)) r ∙ ap (λ (v : List Token). s ++ (m ∷ v)) (append_assoc t (w ∷ u) r) in
    rw (
      shape,
      reads_if_at d e x s t a b c h (omega (arith, fits)) hx (omega (arith, fits)) (w ∷ (u ++ r)) (λ p. absurd (false_true (ends_open x) shut p)),
      hy d (omega (arith, fits)) r ends,
      line_runs (If e x (OneStmt y)) a.start (stmt_span y).end (key keys.If a ∷ o ∷ (s ++ m ∷ (t ++ w ∷ u))) refl
          (end_of y u (stmt_spanned k) ∙ sym (last_behind (key keys.If a ∷ o ∷ s) m (t ++ w ∷ u) (nonempty_append t w u) ∙ last_behind t w u (stmt_some k))),
    ) refl

reads_while : (e : Expr) (x : Stmt) (s t : List Token) (a b c : Span) → SpellsExpr assignment e s → ReadsStmt x t → SpellsStmt x t
    → ReadsStmt (Line (While e x) (runs (key keys.While a ∷ mark marks.OpenParen b ∷ (s ++ mark marks.CloseParen c ∷ t)))) (key keys.While a ∷ mark marks.OpenParen b ∷ (s ++ mark marks.CloseParen c ∷ t))
unfolding read_stmt stmt_at opening_at stmt_by inner while_at rest head_span
reads_while e x s t a b c h hx k zero fits r ends = absurd (omega (arith, fits))
reads_while e x s t a b c h hx k (suc d) fits r ends =
    let m = mark marks.CloseParen c in
    let o = mark marks.OpenParen b in
    let fits_x : stmt_depth x ≤ d = omega (arith, fits) in
    rw (
      append_assoc s (m ∷ t) r,
      le-leb 1 d (omega (arith, fits_x, stmt_deep x)),
      reads_test (read_stmt d) d h (omega (arith, fits)) b c (t ++ r),
      hx d fits_x r ends,
      line_runs (While e x) a.start (stmt_span x).end (key keys.While a ∷ o ∷ (s ++ m ∷ t)) refl (end_of x t (stmt_spanned k) ∙ sym (last_behind (key keys.While a ∷ o ∷ s) m t (stmt_some k))),
    ) refl

reads_ended : (k : StmtKind) (start : ℕ) (a : Span) (r : List Token) → ended_by k start (mark marks.Semicolon a ∷ r) ≡ Ok (line k start a.end, r)
unfolding ended_by expect begins rest head_span
reads_ended k start a r = refl

reads_do : (e : Expr) (x : Stmt) (s t : List Token) (a b c g f : Span) → ReadsStmt x s → SpellsExpr assignment e t
    → ReadsStmt (Line (Do x e) (runs (key keys.Do a ∷ (s ++ key keys.While b ∷ mark marks.OpenParen c ∷ (t ++ mark marks.CloseParen g ∷ mark marks.Semicolon f ∷ [])))))
    (key keys.Do a ∷ (s ++ key keys.While b ∷ mark marks.OpenParen c ∷ (t ++ mark marks.CloseParen g ∷ mark marks.Semicolon f ∷ [])))
unfolding read_stmt stmt_at opening_at stmt_by inner do_at expect_key begins_key rest head_span
reads_do e x s t a b c g f hx h zero fits r ends = absurd (omega (arith, fits))
reads_do e x s t a b c g f hx h (suc d) fits r ends =
    let w = key keys.While b in
    let o = mark marks.OpenParen c in
    let n = mark marks.CloseParen g in
    let m = mark marks.Semicolon f in
    let fits_x : stmt_depth x ≤ d = omega (arith, fits) in
    let shape : (s ++ w ∷ o ∷ (t ++ n ∷ m ∷ [])) ++ r ≡ s ++ (w ∷ o ∷ (t ++ (n ∷ m ∷ r))) = append_assoc s (w ∷ o ∷ (t ++ n ∷ m ∷ [])) r ∙ ap (λ (v : List Token). s ++ (w ∷ o ∷ v)) (append_assoc t (n ∷ m ∷ []) r) in
    rw (
      shape,
      le-leb 1 d (omega (arith, fits_x, stmt_deep x)),
      hx d fits_x (w ∷ o ∷ (t ++ (n ∷ m ∷ r))) (λ p. refl),
      reads_test (read_stmt d) d h (omega (arith, fits)) c g (m ∷ r),
      reads_ended (Do x e) a.start f r,
      line_runs (Do x e) a.start f.end (key keys.Do a ∷ (s ++ w ∷ o ∷ (t ++ n ∷ m ∷ []))) refl (sym (last_behind (key keys.Do a ∷ s) w (o ∷ (t ++ n ∷ m ∷ [])) (omega arith) ∙ last_behind (o ∷ t) n (m ∷ []) (omega arith))),
    ) refl

reads_for : (p : Perhaps) (e f : Option Expr) (x : Stmt) (s t u v : List Token) (a b c g : Span) → SpellsFirst p s → SpellsMaybe e t → SpellsMaybe f u → ReadsStmt x v → SpellsStmt x v
    → ReadsStmt (Line (For p e f x) (runs (key keys.For a ∷ mark marks.OpenParen b ∷ (s ++ (t ++ mark marks.Semicolon c ∷ (u ++ mark marks.CloseParen g ∷ v))))))
    (key keys.For a ∷ mark marks.OpenParen b ∷ (s ++ (t ++ mark marks.Semicolon c ∷ (u ++ mark marks.CloseParen g ∷ v))))
unfolding read_stmt stmt_at opening_at stmt_by inner for_at for_parts for_body expect begins rest head_span
reads_for p e f x s t u v a b c g hp he hf hx k zero fits r ends = absurd (omega (arith, fits))
reads_for p e f x s t u v a b c g hp he hf hx k (suc d) fits r ends =
    let w = key keys.For a in
    let o = mark marks.OpenParen b in
    let m = mark marks.Semicolon c in
    let n = mark marks.CloseParen g in
    let fits_x : stmt_depth x ≤ d = omega (arith, fits) in
    let third : List Token = u ++ n ∷ v in
    let whole : List Token = w ∷ o ∷ (s ++ (t ++ m ∷ third)) in
    let last_whole : last whole ≡ last v = ap last (sym (append_assoc (w ∷ o ∷ s) t (m ∷ third))) ∙ last_behind ((w ∷ o ∷ s) ++ t) m third (nonempty_append u n v) ∙ last_behind u n v (stmt_some k) in
    let shape : (s ++ (t ++ m ∷ third)) ++ r ≡ s ++ (t ++ (m ∷ (u ++ (n ∷ (v ++ r))))) = append_assoc s (t ++ m ∷ third) r ∙ ap (λ (q : List Token). s ++ q) (append_assoc t (m ∷ third) r) ∙ ap (λ (q : List Token). s ++ (t ++ (m ∷ q))) (append_assoc u (n ∷ v) r) in
    rw (
      shape,
      le-leb 1 d (omega (arith, fits_x, stmt_deep x)),
      reads_first d hp (omega (arith, fits)) (t ++ (m ∷ (u ++ (n ∷ (v ++ r))))),
      reads_semicolon d he (omega (arith, fits)) c (u ++ (n ∷ (v ++ r))),
      reads_paren d hf (omega (arith, fits)) g (v ++ r),
      hx d fits_x r ends,
      line_runs (For p e f x) a.start (stmt_span x).end whole refl (end_of x v (stmt_spanned k) ∙ sym last_whole),
    ) refl

reads_switch : (e : Expr) (xs : Stmts) (s t : List Token) (a b c g f : Span) → SpellsExpr assignment e s → ReadsSwitchLines xs t
    → ReadsStmt (Line (Switch e xs) (runs (key keys.Switch a ∷ mark marks.OpenParen b ∷ (s ++ mark marks.CloseParen c ∷ mark marks.OpenBrace g ∷ (t ++ mark marks.CloseBrace f ∷ [])))))
    (key keys.Switch a ∷ mark marks.OpenParen b ∷ (s ++ mark marks.CloseParen c ∷ mark marks.OpenBrace g ∷ (t ++ mark marks.CloseBrace f ∷ [])))
unfolding read_stmt stmt_at opening_at stmt_by inner switch_at switch_body expect begins rest head_span
reads_switch e xs s t a b c g f h hs zero fits r ends = absurd (omega (arith, fits))
reads_switch e xs s t a b c g f h hs (suc d) fits r ends =
    let w = key keys.Switch a in
    let o = mark marks.OpenParen b in
    let n = mark marks.CloseParen c in
    let l = mark marks.OpenBrace g in
    let m = mark marks.CloseBrace f in
    let fits_e : expr_depth e ≤ d = omega (arith, fits) in
    let shape : (s ++ n ∷ l ∷ (t ++ m ∷ [])) ++ r ≡ s ++ (n ∷ l ∷ (t ++ (m ∷ r))) = append_assoc s (n ∷ l ∷ (t ++ m ∷ [])) r ∙ ap (λ (v : List Token). s ++ (n ∷ l ∷ v)) (append_assoc t (m ∷ []) r) in
    let all = hs d (omega (arith, fits)) (suc (length (t ++ (m ∷ r)))) (omega (arith, length-append t (m ∷ r))) (m ∷ r) refl in
    rw (
      shape,
      le-leb 1 d (omega (arith, fits_e, spelled.depth_pos e)),
      reads_test (read_stmt d) d h fits_e b c (l ∷ (t ++ (m ∷ r))),
      all,
      list_again xs,
      line_runs (Switch e xs) a.start f.end (w ∷ o ∷ (s ++ n ∷ l ∷ (t ++ m ∷ []))) refl (sym (last_behind (w ∷ o ∷ s) n (l ∷ (t ++ m ∷ [])) (omega arith) ∙ last_token (l ∷ t) m)),
    ) refl

reads_break : (a b : Span) → ReadsStmt (Line Break (runs (key keys.Break a ∷ mark marks.Semicolon b ∷ []))) (key keys.Break a ∷ mark marks.Semicolon b ∷ [])
unfolding read_stmt stmt_at opening_at stmt_by outer ended_by expect begins rest head_span
reads_break a b zero fits r ends = absurd (omega (arith, fits))
reads_break a b (suc d) fits r ends = refl

reads_continue : (a b : Span) → ReadsStmt (Line Continue (runs (key keys.Continue a ∷ mark marks.Semicolon b ∷ []))) (key keys.Continue a ∷ mark marks.Semicolon b ∷ [])
unfolding read_stmt stmt_at opening_at stmt_by outer ended_by expect begins rest head_span
reads_continue a b zero fits r ends = absurd (omega (arith, fits))
reads_continue a b (suc d) fits r ends = refl

reads_goto : (n : Name) (a b : Span) → ReadsStmt (Line (Goto n) (runs (key keys.Goto a ∷ id n ∷ mark marks.Semicolon b ∷ []))) (key keys.Goto a ∷ id n ∷ mark marks.Semicolon b ∷ [])
unfolding read_stmt stmt_at opening_at stmt_by outer goto_at expect_name ended_by expect begins rest head_span
reads_goto n a b zero fits r ends = absurd (omega (arith, fits))
reads_goto n a b (suc d) fits r ends = refl

reads_return : (e : Option Expr) (s : List Token) (a b : Span) → SpellsMaybe e s → ReadsStmt (Line (Return e) (runs (key keys.Return a ∷ (s ++ mark marks.Semicolon b ∷ [])))) (key keys.Return a ∷ (s ++ mark marks.Semicolon b ∷ []))
unfolding read_stmt stmt_at opening_at stmt_by outer return_at rest head_span
reads_return e s a b h zero fits r ends = absurd (omega (arith, fits))
reads_return e s a b h (suc d) fits r ends =
    let m = mark marks.Semicolon b in
    rw (append_assoc s (m ∷ []) r, reads_semicolon d h (omega (arith, fits)) b r, reads_ended (Return e) a.start b r, line_runs (Return e) a.start b.end (key keys.Return a ∷ (s ++ m ∷ [])) refl (sym (last_token (key keys.Return a ∷ s) m))) refl

-- lines
reads_declaring : (y : Declare) (s : List Token) → SpellsDecl y s → ReadsLine (Line (Declared y) (runs s)) s
unfolding line_by
reads_declaring y s h zero fits r ends = absurd (omega (arith, fits))
reads_declaring y s h (suc d) fits r ends = rw (decl_opens h r).is_base (reads_declared d y s h (omega (arith, fits)) r)

reads_stating : (x : Stmt) (s : List Token) → SpellsStmt x s → ReadsStmt x s → ReadsLine x s
unfolding line_by
reads_stating x s k h zero fits r ends = absurd (omega (arith, fits, stmt_deep x))
reads_stating x s k h (suc d) fits r ends = rw (stmt_words k r).no_base (h (suc d) fits r ends)

line_no_case : {x : Stmt} {s : List Token} → SpellsLine x s → (r : List Token) → (begins_key keys.Case (s ++ r) ≡ false) × (begins_key keys.Default (s ++ r) ≡ false)
line_no_case (declaring h) r = let b = decl_opens h r in (b.no_case, b.no_default)
line_no_case (stating h) r = let w = stmt_words h r in (w.no_case, w.no_default)

reads_plain_line : (x : Stmt) (s : List Token) → SpellsLine x s → ReadsLine x s → ReadsSwitchLine x s
unfolding switch_line_by
reads_plain_line x s k h zero fits r ends = absurd (omega (arith, fits, stmt_deep x))
reads_plain_line x s k h (suc d) fits r ends = let no = line_no_case k r in rw (no.0, no.1) (h (suc d) fits r ends)

reads_case : (e : Expr) (s : List Token) (a b : Span) → SpellsExpr conditional e s → ReadsSwitchLine (Line (Case e) (runs (key keys.Case a ∷ (s ++ mark marks.Colon b ∷ [])))) (key keys.Case a ∷ (s ++ mark marks.Colon b ∷ []))
unfolding switch_line_by case_at expect begins begins_key rest head_span
reads_case e s a b h zero fits r ends = absurd (omega (arith, fits))
reads_case e s a b h (suc d) fits r ends =
    let m = mark marks.Colon b in
    let fits_e : expr_depth e ≤ d = omega (arith, fits) in
    rw (append_assoc s (m ∷ []) r, le-leb 1 d (omega (arith, fits_e, spelled.depth_pos e)), conditional_reads h d fits_e (m ∷ r) (stops_colon b r), line_runs (Case e) a.start b.end (key keys.Case a ∷ (s ++ m ∷ [])) refl (sym (last_token (key keys.Case a ∷ s) m))) refl

reads_default : (a b : Span) → ReadsSwitchLine (Line Default (runs (key keys.Default a ∷ mark marks.Colon b ∷ []))) (key keys.Default a ∷ mark marks.Colon b ∷ [])
unfolding switch_line_by default_at expect begins begins_key rest head_span
reads_default a b zero fits r ends = absurd (omega (arith, fits))
reads_default a b (suc d) fits r ends = refl

mutual
  pub stmt_reads : {x : Stmt} {s : List Token} → SpellsStmt x s → ReadsStmt x s
  stmt_reads (placed h) = kind_reads h

  kind_reads : {k : StmtKind} {s : List Token} → SpellsKind k s → ReadsStmt (Line k (runs s)) s
  kind_reads (block {ss = xs} {s = s} a b h) = reads_block xs s a b (lines_read h)
  kind_reads (empty a) = reads_empty a
  kind_reads (evaluated {e = e} {s = s} a h) = reads_eval e s a h
  kind_reads (labelled {x = x} {s = s} n a h) = reads_label n a x s (stmt_reads h) h
  kind_reads (if_alone {e = e} {x = x} {s = s} {t = t} a b c h hx) = reads_if e x s t a b c h (stmt_reads hx) hx
  kind_reads (if_else {e = e} {x = x} {y = y} {s = s} {t = t} {u = u} a b c l h hx shut hy) = reads_else e x y s t u a b c l h (stmt_reads hx) shut (stmt_reads hy) hy
  kind_reads (while_loop {e = e} {x = x} {s = s} {t = t} a b c h hx) = reads_while e x s t a b c h (stmt_reads hx) hx
  kind_reads (do_loop {e = e} {x = x} {s = s} {t = t} a b c g f hx h) = reads_do e x s t a b c g f (stmt_reads hx) h
  kind_reads (for_loop {p = p} {e = e} {f = f} {x = x} {s = s} {t = t} {u = u} {v = v} a b c g hp he hf hx) = reads_for p e f x s t u v a b c g hp he hf (stmt_reads hx) hx
  kind_reads (switched {e = e} {ss = xs} {s = s} {t = t} a b c g f h hs) = reads_switch e xs s t a b c g f h (switch_lines_read hs)
  kind_reads (broken_off a b) = reads_break a b
  kind_reads (continued a b) = reads_continue a b
  kind_reads (gone_to n a b) = reads_goto n a b
  kind_reads (returned {e = e} {s = s} a b h) = reads_return e s a b h

  pub line_reads : {x : Stmt} {s : List Token} → SpellsLine x s → ReadsLine x s
  line_reads (declaring {d = y} {s = s} h) = reads_declaring y s h
  line_reads (stating {x = x} {s = s} h) = reads_stating x s h (stmt_reads h)

  pub lines_read : {xs : Stmts} {s : List Token} → SpellsLines xs s → ReadsLines xs s
  lines_read no_lines = λ d fits f lt r close. repeated_ends (line_by (read_stmt d) d) (begins marks.CloseBrace) f r close
  lines_read (more_lines {x = x} {xs = xs} {s = s} {t = t} h hs) = λ d fits f lt r close. reads_more (line_by (read_stmt d) d) x xs s t (line_reads h d (omega (arith, fits))) (line_some h) (line_opens h) r (lines_no_else hs r close) (λ g less. lines_read hs d (omega (arith, fits)) g less r close) f lt

  switch_line_reads : {x : Stmt} {s : List Token} → SpellsSwitchLine x s → ReadsSwitchLine x s
  switch_line_reads (plain_line {x = x} {s = s} h) = reads_plain_line x s h (line_reads h)
  switch_line_reads (label_line (case_label {e = e} {s = s} a b h)) = reads_case e s a b h
  switch_line_reads (label_line (default_label a b)) = reads_default a b

  switch_lines_read : {xs : Stmts} {s : List Token} → SpellsSwitchLines xs s → ReadsSwitchLines xs s
  switch_lines_read no_switch_lines = λ d fits f lt r close. repeated_ends (switch_line_by (read_stmt d) d) (begins marks.CloseBrace) f r close
  switch_lines_read (more_switch_lines {x = x} {xs = xs} {s = s} {t = t} h hs) = λ d fits f lt r close. reads_more (switch_line_by (read_stmt d) d) x xs s t (switch_line_reads h d (omega (arith, fits))) (switch_line_some h) (switch_line_opens h) r (switch_no_else hs r close) (λ g less. switch_lines_read hs d (omega (arith, fits)) g less r close) f lt
