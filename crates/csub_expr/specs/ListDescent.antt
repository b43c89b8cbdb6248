-- Lists as functions on tokens, by how one piece is read. Fuel is more than the tokens.
use Rattle.std.specs.Prelude.{ℕ, zero, suc, List, [], ◌∷◌, length, Ok, Err, Bool, false, if◌then◌else◌}
use Rattle.csub_lex.specs.declared.token.Mark.TheVariants as marks
use Rattle.csub_lex.specs.declared.token.Token.{Token}
use Rattle.csub_expr.specs.Looks.{begins, rest}
use Rattle.csub_expr.specs.Answers.{Answer, ◌>>=◌}

-- no comma may stand behind the last piece
abbrev pub never : List Token → Bool
never ts = false

module _ {A : Type 0} (item : List Token → Answer A) (stop : List Token → Bool) where
  -- x ("," x)*, and a comma more where `stop` holds behind it
  unfoldable pub separated : ℕ → List Token → Answer (List A)
  separated zero ts = Err (length ts)
  separated (suc f) ts = do
    x ← item ts
    if begins marks.Comma x.1 then (
        if stop (rest x.1) then Ok (x.0 ∷ [], rest x.1) else (separated f (rest x.1) >>= λ xs. Ok (x.0 ∷ xs.0, xs.1))
        ) else Ok (x.0 ∷ [], x.1)

  -- x*, up to where `stop` holds
  unfoldable pub repeated : ℕ → List Token → Answer (List A)
  repeated zero ts = if stop ts then Ok ([], ts) else Err (length ts)
  repeated (suc f) ts = if stop ts then Ok ([], ts) else (item ts >>= λ x. repeated f x.1 >>= λ xs. Ok (x.0 ∷ xs.0, xs.1))
