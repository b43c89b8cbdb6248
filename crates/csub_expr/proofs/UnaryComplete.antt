-- Primary, postfix and unary expressions that are spelled so are read.
use Rattle.std.proofs.Common.{◌≡◌, ℕ, zero, suc, ◌+◌, ◌-◌, ◌<◌, ◌≤◌, List, [], ◌∷◌, ◌++◌, length, Some, None, Ok, Err, Bool, true, false, cond, refl, sym, ap, ◌∙◌, arith, append_assoc, length-append}
use Rattle.std.specs.Prelude.{nat_le}
use Rattle.std.proofs.lemmas.Bool.{le-leb}
use Rattle.csub_text.specs.declared.span.Span.{Span}
use Rattle.csub_text.specs.declared.operator.StepOp.{StepOp}
use Rattle.csub_lex.specs.declared.token.Key.TheVariants as keys
use Rattle.csub_lex.specs.declared.token.Mark.{Mark}
use Rattle.csub_lex.specs.declared.token.Mark.TheVariants as marks
use Rattle.csub_lex.specs.declared.token.TokenKind.TheVariants as kinds
use Rattle.csub_lex.specs.declared.token.Token.{Token}
use Rattle.csub_tree.specs.declared.name.Name.{Name}
use Rattle.csub_tree.specs.declared.name.TypeName.{TypeName}
use Rattle.csub_tree.specs.Expressions.{Expr, Exprs, Node, Number, Char, Text, Named, Paren, Cast, Step, Call, Index, Member, NoExprs, MoreExprs, exprs_of, span_of}
use Rattle.csub_tree.specs.Depth.{expr_depth, exprs_depth}
use Rattle.csub_tree.specs.Tokens.{mark, id, runs}
use Rattle.csub_tree.specs.SpellsExpressions.{Rank, assignment, binary, postfix, primary, SpellsExpr, no_postfix, indexed, member, stepped, named, called, number, character, string, enclosed, Prefix, applied, prefix_of, postfix_of, SpellsNumber, char, int, unsigned, unsigned_int}
use Rattle.csub_expr.specs.declared.operator.Tail.{Tail}
use Rattle.csub_expr.specs.declared.operator.Tail.TheVariants as tails
use Rattle.csub_expr.specs.Looks.{begins, begins_key, rest, head_span, prefix_at, tail_at, begins_number}
use Rattle.csub_expr.specs.Answers.{Answer, ◌>>=◌, done, expect, expect_name}
use Rattle.csub_expr.specs.ListDescent.{separated, never}
use Rattle.csub_expr.specs.ExprDescent as descent
use Rattle.csub_expr.specs.ExprDescent.{read, joins, is_unary, number_at, paren_at, cast_at, call_at, name_at, word_at, behind_by, behind, open_at, unary_by, unary_at, more_by, more, chain_at, choice_at, cond_at, assign_by, assign_at}
use Rattle.csub_expr.proofs.LawsTokens.{last_cons, nonempty_append, last_behind, last_token}
use Rattle.csub_expr.proofs.Places.{joins_runs, starts, ends}
use Rattle.csub_expr.proofs.LawsLists.{separated_last, separated_next}
use Rattle.csub_expr.proofs.Spelled.{depth_pos, applied_depth, lead, lead_no_number}
use Rattle.csub_expr.proofs.ExprReads.{Closing, Heads, Reads, Tails, behind_none, ends_at, head_at, step_continues}
use Rattle.csub_expr.specs.Laws.{Ends}

-- primary and postfix expressions
pub tails_primary : (e : Expr) (s : List Token) → Heads e s → Tails e s
tails_primary e s h d fits r shut = (0, depth_pos e, λ f. let z : 0 + f ≡ f = omega arith in rw (z, h d fits r shut) refl)

one_tail : (below : Rank → List Token → Answer Expr) (d f : ℕ) (e : Expr) (t : Token) (ts : List Token) (k : Tail) → tail_at (t ∷ ts) ≡ Some k → expr_depth e ≤ d
    → behind below d (suc f) e (t ∷ ts) ≡ (descent.tail_of below d k e t.span ts >>= λ x. behind below d f x.0 x.1)
unfolding behind behind_by head_span rest
one_tail below d f e t ts k is fits = rw (behind, is, le-leb (expr_depth e) d fits) refl

pub tails_index : (e i : Expr) (s t : List Token) (a b : Span) → Tails e s → 0 < length s → span_of e ≡ runs s → Reads assignment i t
    → Tails (Node (Index e i) (runs (s ++ mark marks.OpenBracket a ∷ (t ++ mark marks.CloseBracket b ∷ [])))) (s ++ mark marks.OpenBracket a ∷ (t ++ mark marks.CloseBracket b ∷ []))
unfolding begins expect rest head_span tail_at
tails_index e i s t a b he n₁ e₁ hi d fits r shut =
    let o = mark marks.OpenBracket a in
    let c = mark marks.CloseBracket b in
    let fits_e : expr_depth e ≤ d = omega arith in
    let fits_i : expr_depth i ≤ d = omega arith in
    let p = he d (omega arith) (o ∷ (t ++ (c ∷ r))) refl in (
      suc p.0,
      omega (arith, p.1),
      λ f.
          let sum : suc p.0 + f ≡ p.0 + suc f = omega arith in
          let shape : (s ++ o ∷ (t ++ c ∷ [])) ++ r ≡ s ++ (o ∷ (t ++ (c ∷ r))) = append_assoc s (o ∷ (t ++ c ∷ [])) r ∙ ap (λ (u : List Token). s ++ (o ∷ u)) (append_assoc t (c ∷ []) r) in
          rw (
            sum,
            shape,
            p.2 (suc f),
            one_tail (read d) d f e o (t ++ (c ∷ r)) tails.Index refl fits_e,
            hi d fits_i (c ∷ r) (ends_at marks.CloseBracket (record { no_operator = refl; no_tail = refl; no_assignment = refl; no_open = refl; no_question = refl }) b r),
            joins_runs (Index e i) (span_of e).start b.end (s ++ o ∷ (t ++ c ∷ [])) (starts (span_of e) s (o ∷ (t ++ c ∷ [])) e₁ n₁) (sym (last_behind s o (t ++ c ∷ []) (nonempty_append t c []) ∙ last_token t c)),
          ) refl,
    )

pub tails_member : (e : Expr) (s : List Token) (a : Span) (n : Name) → Tails e s → 0 < length s → span_of e ≡ runs s
    → Tails (Node (Member e n) (runs (s ++ mark marks.Dot a ∷ id n ∷ []))) (s ++ mark marks.Dot a ∷ id n ∷ [])
unfolding begins rest head_span tail_at expect_name
tails_member e s a n he n₁ e₁ d fits r shut =
    let o = mark marks.Dot a in
    let fits_e : expr_depth e ≤ d = omega arith in
    let p = he d (omega arith) (o ∷ id n ∷ r) refl in (
      suc p.0,
      omega (arith, p.1),
      λ f.
          let sum : suc p.0 + f ≡ p.0 + suc f = omega arith in
          let shape : (s ++ o ∷ id n ∷ []) ++ r ≡ s ++ (o ∷ id n ∷ r) = append_assoc s (o ∷ id n ∷ []) r in
          rw (
            sum,
            shape,
            p.2 (suc f),
            one_tail (read d) d f e o (id n ∷ r) tails.Member refl fits_e,
            joins_runs (Member e n) (span_of e).start n.span.end (s ++ o ∷ id n ∷ []) (starts (span_of e) s (o ∷ id n ∷ []) e₁ n₁) (sym (last_behind s o (id n ∷ []) (omega arith))),
          ) refl,
    )

pub tails_step : (k : StepOp) (e : Expr) (s : List Token) (m : Mark) (a : Span) → postfix_of m ≡ Some k → Tails e s → 0 < length s → span_of e ≡ runs s
    → Tails (Node (Step k e) (runs (s ++ mark m a ∷ []))) (s ++ mark m a ∷ [])
unfolding begins rest head_span tail_at
tails_step k e s m a is he n₁ e₁ d fits r shut =
    let o = mark m a in
    let c = step_continues m k is in
    let fits_e : expr_depth e ≤ d = omega arith in
    let p = he d (omega arith) (o ∷ r) c.1 in (
      suc p.0,
      omega (arith, p.1),
      λ f.
          let sum : suc p.0 + f ≡ p.0 + suc f = omega arith in
          let shape : (s ++ o ∷ []) ++ r ≡ s ++ (o ∷ r) = append_assoc s (o ∷ []) r in
          rw (
            sum,
            shape,
            p.2 (suc f),
            one_tail (read d) d f e o r (tails.Step k) c.0 fits_e,
            joins_runs (Step k e) (span_of e).start a.end (s ++ o ∷ []) (starts (span_of e) s (o ∷ []) e₁ n₁) (sym (last_token s o)),
          ) refl,
    )

unary_tails : (below : Rank → List Token → Answer Expr) (d : ℕ) (ts : List Token) → prefix_at ts ≡ None → (begins marks.OpenParen ts ≡ true → begins_number (rest ts) ≡ false)
    → unary_at below d ts ≡ (head_at below d ts >>= λ e. behind below d (suc d) e.0 e.1)
unfolding unary_at unary_by head_at open_at
unary_tails below d ts none no_cast = rw none (go (begins marks.OpenParen ts) refl)
  where
    room : (b : Bool) → begins_number (rest ts) ≡ false → cond b (open_at below d (head_span ts).start (rest ts)) (Err (length ts)) ≡ (cond b (paren_at below d (head_span ts).start (rest ts)) (Err (length ts)) >>= λ e. behind below d (suc d) e.0 e.1)
    room true h = rw h refl
    room false h = refl

    go : (b : Bool) → begins marks.OpenParen ts ≡ b → cond b (cond (nat_le 1 d) (open_at below d (head_span ts).start (rest ts)) (Err (length ts))) (word_at below d ts >>= λ e. behind below d (suc d) e.0 e.1)
        ≡ (cond b (cond (nat_le 1 d) (paren_at below d (head_span ts).start (rest ts)) (Err (length ts))) (word_at below d ts) >>= λ e. behind below d (suc d) e.0 e.1)
    go true is = room (nat_le 1 d) (no_cast is)
    go false is = refl

-- how a postfix expression begins
record Start (ts : List Token) : Type 0 where
  no_sign : prefix_at ts ≡ None
  no_cast : begins marks.OpenParen ts ≡ true → begins_number (rest ts) ≡ false

primary_start : {e : Expr} {s : List Token} → SpellsExpr primary e s → (r : List Token) → Start (s ++ r)
unfolding prefix_at begins rest
primary_start (named n) r = record { no_sign = refl; no_cast = λ is. absurd cc }
primary_start (called n a b h) r = record { no_sign = refl; no_cast = λ is. absurd cc }
primary_start (number n u a) r = record { no_sign = refl; no_cast = λ is. absurd cc }
primary_start (character b a) r = record { no_sign = refl; no_cast = λ is. absurd cc }
primary_start (string t a) r = record { no_sign = refl; no_cast = λ is. absurd cc }
primary_start (enclosed {s = s} a b h) r =
    let shape : (s ++ mark marks.CloseParen b ∷ []) ++ r ≡ s ++ (mark marks.CloseParen b ∷ r) = append_assoc s (mark marks.CloseParen b ∷ []) r in
    record { no_sign = refl; no_cast = λ is. rw shape (lead_no_number (lead h (mark marks.CloseParen b ∷ r))) }

start : {e : Expr} {s : List Token} → SpellsExpr postfix e s → (r : List Token) → Start (s ++ r)
start (no_postfix h) r = primary_start h r
start (indexed {t = t} a b h i) r = rw append_assoc (start h (mark marks.OpenBracket a ∷ (t ++ mark marks.CloseBracket b ∷ []) ++ r))
start (member a n h) r = rw append_assoc (start h (mark marks.Dot a ∷ id n ∷ r))
start (stepped m a o h) r = rw append_assoc (start h (mark m a ∷ r))

pub reads_postfix : (e : Expr) (s : List Token) → SpellsExpr postfix e s → Tails e s → Reads (binary 0) e s
unfolding read chain_at
reads_postfix e s h t zero fits r ends = absurd (omega (arith, depth_pos e))
reads_postfix e s h t (suc d) fits r ends =
    let p = t d fits r ends.0.1 in
    let at = start h r in
    let sum : suc d ≡ p.0 + (suc d - p.0) = omega (arith, p.1) in
    unary_tails (read d) d (s ++ r) at.no_sign at.no_cast ∙ ap (λ n. head_at (read d) d (s ++ r) >>= λ l. behind (read d) d n l.0 l.1) sum ∙ p.2 (suc d - p.0) ∙ behind_none (read d) d (suc d - p.0) e r ends.0.0

-- the other unary expressions
unary_prefix : (below : Rank → List Token → Answer Expr) (d : ℕ) (o : Prefix) (m : Mark) (a : Span) (ts : List Token) → prefix_of m ≡ Some o → 1 ≤ d
    → unary_at below d (mark m a ∷ ts) ≡ (below (binary 0) ts >>= λ e. done (joins (applied o e.0) a.start (span_of e.0).end) e.1)
unfolding unary_at unary_by prefix_at rest head_span
unary_prefix below d o m a ts is some = rw (is, le-leb 1 d some) refl

pub reads_prefixed : (o : Prefix) (e : Expr) (s : List Token) (m : Mark) (a : Span) → prefix_of m ≡ Some o → Reads (binary 0) e s → 0 < length s → span_of e ≡ runs s
    → Reads (binary 0) (Node (applied o e) (runs (mark m a ∷ s))) (mark m a ∷ s)
unfolding read chain_at
reads_prefixed o e s m a is h n sp zero fits r ends' = absurd (omega arith)
reads_prefixed o e s m a is h n sp (suc d) fits r ends' =
    let fits_e : expr_depth e ≤ d = omega (arith, applied_depth o e) in
    rw (unary_prefix (read d) d o m a (s ++ r) is (omega (arith, depth_pos e)), h d fits_e r ends', joins_runs (applied o e) a.start (span_of e).end (mark m a ∷ s) refl (ends (span_of e) s sp ∙ sym (last_cons (mark m a) s n))) refl

number_reads : {n : TypeName} {s : List Token} → SpellsNumber n s → (r : List Token) → begins_key keys.Int r ≡ false → (number_at (s ++ r) ≡ Ok (n, r)) × (begins_number (s ++ r) ≡ true)
unfolding number_at begins_number begins_key rest
number_reads (char a) r no_int = (refl, refl)
number_reads (int a) r no_int = (refl, refl)
number_reads (unsigned a) r no_int = (rw (begins_key, no_int) refl, refl)
number_reads (unsigned_int a b) r no_int = (refl, refl)

unary_cast : (below : Rank → List Token → Answer Expr) (d : ℕ) (a : Span) (ts : List Token) → 1 ≤ d → begins_number ts ≡ true → unary_at below d (mark marks.OpenParen a ∷ ts) ≡ cast_at below d a.start ts
unfolding unary_at unary_by prefix_at begins rest head_span open_at
unary_cast below d a ts some is = rw (le-leb 1 d some, is) refl

pub reads_cast : (n : TypeName) (e : Expr) (s t : List Token) (a b : Span) → SpellsNumber n s → Reads (binary 0) e t → 0 < length t → span_of e ≡ runs t
    → Reads (binary 0) (Node (Cast n e) (runs (mark marks.OpenParen a ∷ (s ++ mark marks.CloseParen b ∷ t)))) (mark marks.OpenParen a ∷ (s ++ mark marks.CloseParen b ∷ t))
unfolding read chain_at cast_at expect begins rest head_span begins_key
reads_cast n e s t a b w h some sp zero fits r ends' = absurd (omega arith)
reads_cast n e s t a b w h some sp (suc d) fits r ends' =
    let o = mark marks.OpenParen a in
    let c = mark marks.CloseParen b in
    let fits_e : expr_depth e ≤ d = omega arith in
    let shape : (s ++ c ∷ t) ++ r ≡ s ++ (c ∷ (t ++ r)) = append_assoc s (c ∷ t) r in
    let k = number_reads w (c ∷ (t ++ r)) refl in
    rw (shape, unary_cast (read d) d a (s ++ (c ∷ (t ++ r))) (omega (arith, depth_pos e)) k.1, k.0, h d fits_e r ends', joins_runs (Cast n e) a.start (span_of e).end (o ∷ (s ++ c ∷ t)) refl (ends (span_of e) t sp ∙ sym (last_behind (o ∷ s) c t some))) refl

-- primary expressions
pub heads_paren : (e : Expr) (s : List Token) (a b : Span) → Reads assignment e s → Heads (Node (Paren e) (runs (mark marks.OpenParen a ∷ (s ++ mark marks.CloseParen b ∷ [])))) (mark marks.OpenParen a ∷ (s ++ mark marks.CloseParen b ∷ []))
unfolding head_at paren_at expect begins rest head_span
heads_paren e s a b h d fits r shut =
    let o = mark marks.OpenParen a in
    let c = mark marks.CloseParen b in
    let fits_e : expr_depth e ≤ d = omega arith in
    let shape : (s ++ c ∷ []) ++ r ≡ s ++ (c ∷ r) = append_assoc s (c ∷ []) r in
    rw (shape, le-leb 1 d (omega (arith, depth_pos e)), h d fits_e (c ∷ r) (ends_at marks.CloseParen (record { no_operator = refl; no_tail = refl; no_assignment = refl; no_open = refl; no_question = refl }) b r), joins_runs (Paren e) a.start b.end (o ∷ (s ++ c ∷ [])) refl (sym (last_token (o ∷ s) c))) refl

pub heads_name : (n : Name) → Heads (Node (Named n) n.span) (id n ∷ [])
unfolding head_at word_at name_at begins rest head_span
heads_name n d fits r shut = rw (begins, shut) refl

pub heads_number : (n : ℕ) (u : Bool) (a : Span) → Heads (Node (Number n u) a) (record { kind = kinds.Number n u; span = a } ∷ [])
unfolding head_at word_at begins rest head_span
heads_number n u a d fits r shut = refl

pub heads_character : (b : ℕ) (a : Span) → Heads (Node (Char b) a) (record { kind = kinds.Char b; span = a } ∷ [])
unfolding head_at word_at begins rest head_span
heads_character b a d fits r shut = refl

pub heads_string : (t : List ℕ) (a : Span) → Heads (Node (Text t) a) (record { kind = kinds.Text t; span = a } ∷ [])
unfolding head_at word_at begins rest head_span
heads_string t a d fits r shut = refl

heads_call : (n : Name) (a : Span) (ts : List Token) (below : Rank → List Token → Answer Expr) (d : ℕ) → head_at below d (id n ∷ mark marks.OpenParen a ∷ ts) ≡ call_at below d n ts
unfolding head_at word_at name_at begins rest head_span
heads_call n a ts below d = refl

pub heads_no_args : (n : Name) (a b : Span) → Heads (Node (Call n NoExprs) (runs (id n ∷ mark marks.OpenParen a ∷ mark marks.CloseParen b ∷ []))) (id n ∷ mark marks.OpenParen a ∷ mark marks.CloseParen b ∷ [])
unfolding call_at begins rest head_span
heads_no_args n a b d fits r shut = rw (heads_call n a (mark marks.CloseParen b ∷ r) (read d) d) refl

abbrev pub list_of : Exprs → List Expr
list_of NoExprs = []
list_of (MoreExprs e es) = e ∷ list_of es

pub list_again : (es : Exprs) → exprs_of (list_of es) ≡ es
list_again NoExprs = refl
list_again (MoreExprs e es) = ap (λ (t : Exprs). MoreExprs e t) (list_again es)

abbrev pub ReadsSome : Exprs → List Token → Type 0
ReadsSome es s = (d : ℕ) → exprs_depth es ≤ d → (f : ℕ) → length s < f → (r : List Token) → Ends assignment r → begins marks.Comma r ≡ false → separated (read d assignment) never f (s ++ r) ≡ Ok (list_of es, r)

comma_closes : Closing marks.Comma
comma_closes = record { no_operator = refl; no_tail = refl; no_assignment = refl; no_open = refl; no_question = refl }

pub some_last : (e : Expr) (s : List Token) → Reads assignment e s → ReadsSome (MoreExprs e NoExprs) s
some_last e s h d fits zero lt r ends' none = elim lt [ ]
some_last e s h d fits (suc f) lt r ends' none = separated_last (read d assignment) never f (s ++ r) e r (h d (omega arith) r ends') none

pub some_next : (e : Expr) (es : Exprs) (s t : List Token) (a : Span) → Reads assignment e s → ReadsSome es t → ReadsSome (MoreExprs e es) (s ++ mark marks.Comma a ∷ t)
some_next e es s t a h hs d fits zero lt r ends' none = elim lt [ ]
some_next e es s t a h hs d fits (suc f) lt r ends' none =
    let c = mark marks.Comma a in
    let shape : (s ++ c ∷ t) ++ r ≡ s ++ (c ∷ (t ++ r)) = append_assoc s (c ∷ t) r in
    rw shape (separated_next (read d assignment) never f (s ++ (c ∷ (t ++ r))) e a (t ++ r) (list_of es) r (h d (omega arith) (c ∷ (t ++ r)) (ends_at marks.Comma comma_closes a (t ++ r))) refl (hs d (omega arith) f (omega (arith, length-append s (c ∷ t))) r ends' none))

pub heads_some : (es : Exprs) (s : List Token) (n : Name) (a b : Span) → ((r : List Token) → begins marks.CloseParen (s ++ r) ≡ false) → ReadsSome es s
    → Heads (Node (Call n es) (runs (id n ∷ mark marks.OpenParen a ∷ (s ++ mark marks.CloseParen b ∷ [])))) (id n ∷ mark marks.OpenParen a ∷ (s ++ mark marks.CloseParen b ∷ []))
unfolding call_at begins expect rest head_span
heads_some es s n a b opens h d fits r shut =
    let c = mark marks.CloseParen b in
    let o = mark marks.OpenParen a in
    let shape : (s ++ c ∷ []) ++ r ≡ s ++ (c ∷ r) = append_assoc s (c ∷ []) r in
    let all = h d (omega arith) (suc (length (s ++ (c ∷ r)))) (omega (arith, length-append s (c ∷ r))) (c ∷ r) (ends_at marks.CloseParen (record { no_operator = refl; no_tail = refl; no_assignment = refl; no_open = refl; no_question = refl }) b r) refl in
    rw (heads_call n a ((s ++ c ∷ []) ++ r) (read d) d, shape, opens (c ∷ r), all, list_again es, joins_runs (Call n es) n.span.start b.end (id n ∷ o ∷ (s ++ c ∷ [])) refl (sym (last_token (id n ∷ o ∷ s) c))) refl
