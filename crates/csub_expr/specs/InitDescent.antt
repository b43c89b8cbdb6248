-- The descent of initialisers as a function on lists of tokens.
use Rattle.std.specs.Prelude.{ℕ, zero, suc, List, length, Ok, Err, nat_le, if◌then◌else◌}
use Rattle.csub_lex.specs.declared.token.Mark.TheVariants as marks
use Rattle.csub_lex.specs.declared.token.Token.{Token}
use Rattle.csub_tree.specs.Declarations.{Init, One, Listed, inits_of}
use Rattle.csub_tree.specs.SpellsExpressions.{assignment}
use Rattle.csub_expr.specs.Looks.{begins, rest, head_span}
use Rattle.csub_expr.specs.Answers.{Answer, ◌>>=◌, expect}
use Rattle.csub_expr.specs.ListDescent.{separated}
use Rattle.csub_expr.specs.ExprDescent.{read}

module _ (below : List Token → Answer Init) (d : ℕ) where
  -- behind "{", which began at start
  unfoldable pub listed_at : ℕ → List Token → Answer Init
  listed_at start ts = do
    all ← separated below (begins marks.CloseBrace) (suc (length ts)) ts
    close ← expect marks.CloseBrace all.1
    Ok (Listed (inits_of all.0) (record { start = start; end = close.0.end }), close.1)

  -- a list has an initialiser inside, and that an expression: "{" is refused where there is no depth for both
  unfoldable pub init_at : List Token → Answer Init
  init_at ts =
      if begins marks.OpenBrace ts then (
      if nat_le 2 d then listed_at (head_span ts).start (rest ts) else Err (length ts)
      ) else (read d assignment ts >>= λ e. Ok (One e.0, e.1))

-- an initialiser of at most the depth
unfoldable pub read_init : ℕ → List Token → Answer Init
read_init zero ts = Err (length ts)
read_init (suc d) ts = init_at (read_init d) d ts
