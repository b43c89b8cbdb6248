-- One more byte behind the last newline.
use Rattle.std.proofs.Common.{◌≡◌, ℕ, ◌+◌, ◌<◌, List, [], ◌∷◌, ◌++◌, length, take, get_or, refl, arith}
use Rattle.std.specs.Prelude.{reverse}
use Rattle.std.proofs.lemmas.List.{reverse-append}
use Rattle.std.proofs.lemmas.Grind.{take_at_read}
use Rattle.std.proofs.lemmas.Bool.{ne_eqb}
use Rattle.csub_lex.specs.Place.{tail_len}

reverse_push : (xs : List ℕ) (x : ℕ) → reverse (xs ++ x ∷ []) ≡ x ∷ reverse xs
reverse_push xs x = reverse-append xs (x ∷ [])

pub tail_newline : (xs : List ℕ) → tail_len (xs ++ 10 ∷ []) ≡ 0
unfolding tail_len
tail_newline xs = rw (reverse_push xs 10) refl

pub tail_more : (xs : List ℕ) (x : ℕ) → (x ≡ 10 → ⊥) → tail_len (xs ++ x ∷ []) ≡ tail_len xs + 1
unfolding tail_len
tail_more xs x ne = rw (reverse_push xs x, ne_eqb x 10 ne) (omega arith)

pub next : (xs : List ℕ) (i : ℕ) → i < length xs → take (i + 1) xs ≡ take i xs ++ get_or xs i 0 ∷ []
next xs i lt = (take_at_read xs i 0 lt).1

pub tail_none : 0 ≡ tail_len []
unfolding tail_len
tail_none = refl
