-- A statement that begins with an expression, by what stands behind that.
use Rattle.std.proofs.Common.{◌≡◌, ℕ, List, length, Option, Some, None, Ok, Err, true, false, refl, ap}
use Rattle.csub_lex.specs.declared.token.Mark.TheVariants as marks
use Rattle.csub_lex.specs.declared.token.Token.{Token}
use Rattle.csub_tree.specs.declared.name.Name.{Name}
use Rattle.csub_tree.specs.Expressions.{Expr, span_of}
use Rattle.csub_tree.specs.Statements.{Stmt, Label}
use Rattle.csub_tree.specs.SpellsExpressions.{assignment}
use Rattle.csub_expr.specs.declared.stop.Stop.{Stop}
use Rattle.csub_expr.specs.declared.stop.Stop.TheVariants as stops
use Rattle.csub_expr.specs.Looks.{begins, rest}
use Rattle.csub_expr.specs.Answers.{Answer, Fails, expect}
use Rattle.csub_expr.specs.ExprDescent.{read}
use Rattle.csub_expr.proofs.LawsTokens.{begins_is}
use Rattle.csub_stmt.specs.StatementDescent.{line, stmt_span, bare_name, evaluated_end, label_at, after_at, plain_at}

no_semicolon : (us : List Token) → begins marks.Colon us ≡ true → begins marks.Semicolon us ≡ false
unfolding begins
no_semicolon us colon = ap (begins marks.Semicolon) (begins_is marks.Colon us colon)

module _ (below : List Token → Answer Stmt) (d : ℕ) where
  pub plain_evaluated : (ts us : List Token) (e : Expr) → read d assignment ts ≡ Ok (e, us) → begins marks.Colon us ≡ false → plain_at below d ts ≡ evaluated_end e us
  unfolding plain_at after_at
  plain_evaluated ts us e h colon = rw h (go (bare_name e))
    where
      go : (o : Option Name) → after_at below d o e us ≡ evaluated_end e us
      go None = refl
      go (Some n) = rw colon refl

  pub plain_refused : (ts us : List Token) (e : Expr) → read d assignment ts ≡ Ok (e, us) → begins marks.Colon us ≡ true → None ≡ bare_name e → plain_at below d ts ≡ Err (length us)
  unfolding plain_at after_at evaluated_end expect
  plain_refused ts us e h colon none = rw (h, ← none, no_semicolon us colon) refl

  pub plain_labelled : (ts us r : List Token) (e : Expr) (n : Name) (x : Stmt) → read d assignment ts ≡ Ok (e, us) → begins marks.Colon us ≡ true → Some n ≡ bare_name e → below (rest us) ≡ Ok (x, r) → plain_at below d ts ≡ Ok (line (Label n x) (span_of e).start (stmt_span x).end, r)
  unfolding plain_at after_at label_at
  plain_labelled ts us r e n x h colon some one = rw (h, ← some, colon, one) refl

  pub plain_fails : (s : Stop) (ts us : List Token) (e : Expr) (n : Name) → read d assignment ts ≡ Ok (e, us) → begins marks.Colon us ≡ true → Some n ≡ bare_name e → Fails s (below (rest us)) → Fails s (plain_at below d ts)
  unfolding plain_at after_at label_at
  plain_fails stops.Memory ts us e n h colon some failed = tt
  plain_fails (stops.At k) ts us e n h colon some failed = rw (h, ← some, colon, failed) refl
