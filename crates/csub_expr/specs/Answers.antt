-- What a reading answers: a value and the tokens after it, or how many tokens were left where one was refused.
use Rattle.std.specs.Prelude.{◌≡◌, ℕ, List, [], ◌∷◌, length, Result, Ok, Err, if◌then◌else◌}
use Rattle.csub_text.specs.declared.span.Span.{Span}
use Rattle.csub_lex.specs.declared.token.Mark.{Mark}
use Rattle.csub_lex.specs.declared.token.TokenKind.{TokenKind}
use Rattle.csub_lex.specs.declared.token.TokenKind.TheVariants as kinds
use Rattle.csub_lex.specs.declared.token.Token.{Token}
use Rattle.csub_tree.specs.declared.name.Name.{Name}
use Rattle.csub_expr.specs.declared.stop.Stop.{Stop}
use Rattle.csub_expr.specs.declared.stop.Stop.TheVariants as stops
use Rattle.csub_expr.specs.Looks.{begins, rest, head_span}

abbrev pub Answer : Type 0 → Type 0
Answer A = Result (A × List Token) ℕ

infixl 10 ◌>>=◌
abbrev pub ◌>>=◌ : {A B : Type 0} → Answer A → (A × List Token → Answer B) → Answer B
(Ok x) >>= f = f x
(Err e) >>= f = Err e

abbrev pub done : {A : Type 0} → A → List Token → Answer A
done x r = Ok (x, r)

abbrev pub refuse : {A : Type 0} → List Token → Answer A
refuse ts = Err (length ts)

-- the code stopped as the reading does, or for want of memory
abbrev pub Fails : {Y : Type 0} → Stop → Result Y ℕ → Type 0
Fails stops.Memory read = Unit {0}
Fails (stops.At n) read = read ≡ Err n

-- the code gives what the reading gives, or stopped for want of memory
abbrev pub Gives : {X Y : Type 0} → (X → Y) → Result X Stop → Result Y ℕ → Type 0
Gives view (Ok x) read = read ≡ Ok (view x)
Gives view (Err e) read = Fails e read

-- a mark that has to come, with its place
unfoldable pub expect : Mark → List Token → Answer Span
expect m ts = if begins m ts then Ok (head_span ts, rest ts) else Err (length ts)

abbrev pub name_of : TokenKind → List Token → Answer Name
name_of (kinds.Name t) ts = Ok (record { text = t; span = head_span ts }, rest ts)
name_of (kinds.Mark m) ts = Err (length ts)
name_of (kinds.Key k) ts = Err (length ts)
name_of (kinds.Number n u) ts = Err (length ts)
name_of (kinds.Char b) ts = Err (length ts)
name_of (kinds.Text t) ts = Err (length ts)

-- a name that has to come
unfoldable pub expect_name : List Token → Answer Name
expect_name [] = Err 0
expect_name (t ∷ ts) = name_of t.kind (t ∷ ts)
