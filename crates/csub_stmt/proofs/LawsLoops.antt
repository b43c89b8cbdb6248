-- The loops over lists: those read so far stand in front of those still to come.
use Rattle.std.proofs.Common.{◌≡◌, ℕ, zero, suc, ◌-◌, ◌<◌, List, [], ◌∷◌, ◌++◌, length, Ok, Err, Bool, true, false, cond, refl, ap, sym, arith, append_assoc}
use Rattle.csub_lex.specs.declared.token.Mark.TheVariants as marks
use Rattle.csub_lex.specs.declared.token.Token.{Token}
use Rattle.csub_expr.specs.declared.stop.Stop.{Stop}
use Rattle.csub_expr.specs.declared.stop.Stop.TheVariants as stops
use Rattle.csub_expr.specs.Looks.{begins, rest}
use Rattle.csub_expr.specs.Answers.{Answer, ◌>>=◌, Fails}
use Rattle.csub_expr.specs.ListDescent.{separated, repeated, never}
use Rattle.csub_expr.proofs.LawsLists.{with_front}
use Rattle.csub_stmt.specs.DeclarationDescent.{following}

append_empty : {A : Type 0} (xs : List A) → xs ++ [] ≡ xs
append_empty [] = refl
append_empty (x ∷ xs) = ap (λ (ys : List _). x ∷ ys) (append_empty xs)

module _ {A : Type 0} (item : List Token → Answer A) (stop : List Token → Bool) where
  pub each_fails : (e : Stop) (f : ℕ) (ts : List Token) (xs : List A) → length ts < f → stop ts ≡ false → Fails e (item ts) → Fails e (with_front xs (repeated item stop f ts))
  unfolding repeated
  each_fails stops.Memory f ts xs lt on h = tt
  each_fails (stops.At n) zero ts xs lt on h = elim lt [ ]
  each_fails (stops.At n) (suc f) ts xs lt on h = rw (on, h) refl

  pub each_goes : (f : ℕ) (ts us : List Token) (xs : List A) (x : A) → length ts < f → stop ts ≡ false → item ts ≡ Ok (x, us) → with_front xs (repeated item stop f ts) ≡ with_front (xs ++ x ∷ []) (repeated item stop (f - 1) us)
  unfolding repeated
  each_goes zero ts us xs x lt on one = elim lt [ ]
  each_goes (suc f) ts us xs x lt on one = let ef : suc f - 1 ≡ f = omega arith in rw (ef, on, one) (step (repeated item stop f us))
    where
      step : (read : Answer (List A)) → with_front xs (read >>= λ ys. Ok (x ∷ ys.0, ys.1)) ≡ with_front (xs ++ x ∷ []) read
      step (Ok y) = ap (λ (v : List A). Ok (v, y.1)) (sym (append_assoc xs (x ∷ []) y.0))
      step (Err n) = refl

  pub each_ends : (f : ℕ) (ts : List Token) (xs : List A) → stop ts ≡ true → with_front xs (repeated item stop f ts) ≡ Ok (xs, ts)
  unfolding repeated
  each_ends zero ts xs ends = rw (ends, append_empty xs) refl
  each_ends (suc f) ts xs ends = rw (ends, append_empty xs) refl

-- the pieces behind some that were read
module _ {A : Type 0} (item : List Token → Answer A) where
  pub others : ℕ → List Token → Answer (List A)
  others f us = cond (begins marks.Comma us) (separated item never f (rest us)) (Ok ([], us))

  pub others_begin : (x : A) (ts : List Token) → following item x ts ≡ with_front (x ∷ []) (others (suc (length (rest ts))) ts)
  unfolding following others
  others_begin x ts = go (begins marks.Comma ts)
    where
      go : (b : Bool) → cond b (separated item never (suc (length (rest ts))) (rest ts) >>= λ xs. Ok (x ∷ xs.0, xs.1)) (Ok (x ∷ [], ts)) ≡ with_front (x ∷ []) (cond b (separated item never (suc (length (rest ts))) (rest ts)) (Ok ([], ts)))
      go true = refl
      go false = refl

  pub others_fail : (e : Stop) (f : ℕ) (us : List Token) (xs : List A) → length (rest us) < f → begins marks.Comma us ≡ true → Fails e (item (rest us)) → Fails e (with_front xs (others f us))
  unfolding others separated
  others_fail stops.Memory f us xs lt on h = tt
  others_fail (stops.At n) zero us xs lt on h = elim lt [ ]
  others_fail (stops.At n) (suc f) us xs lt on h = rw (on, h) refl

  pub others_go : (f : ℕ) (us v : List Token) (xs : List A) (x : A) → length (rest us) < f → begins marks.Comma us ≡ true → item (rest us) ≡ Ok (x, v) → with_front xs (others f us) ≡ with_front (xs ++ x ∷ []) (others (f - 1) v)
  unfolding others separated
  others_go zero us v xs x lt on one = elim lt [ ]
  others_go (suc f) us v xs x lt on one = let ef : suc f - 1 ≡ f = omega arith in rw (ef, on, one) (go (begins marks.Comma v))
    where
      step : (read : Answer (List A)) → with_front xs (read >>= λ ys. Ok (x ∷ ys.0, ys.1)) ≡ with_front (xs ++ x ∷ []) read
      step (Ok y) = ap (λ (w : List A). Ok (w, y.1)) (sym (append_assoc xs (x ∷ []) y.0))
      step (Err n) = refl

      go : (b : Bool) → with_front xs (cond b (separated item never f (rest v) >>= λ ys. Ok (x ∷ ys.0, ys.1)) (Ok (x ∷ [], v))) ≡ with_front (xs ++ x ∷ []) (cond b (separated item never f (rest v)) (Ok ([], v)))
      go true = step (separated item never f (rest v))
      go false = ap (λ (w : List A). Ok (w, v)) (sym (append_empty (xs ++ x ∷ [])))

  pub others_end : (f : ℕ) (us : List Token) (xs : List A) → begins marks.Comma us ≡ false → with_front xs (others f us) ≡ Ok (xs, us)
  unfolding others
  others_end f us xs none = rw (none, append_empty xs) refl
