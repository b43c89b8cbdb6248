-- Loops that append what a list stands for, entry by entry.
use Rattle.std.proofs.Common.{◌≡◌, ◌∙◌, ℕ, ◌+◌, ◌<◌, ◌≤◌, List, [], ◌∷◌, ◌++◌, length, drop, get_or, ap, sym, append_assoc}
use Rattle.std.proofs.lemmas.List.{drop_more, drop_all}

module _ {X Z : Type 0} (code : List X → List Z) (one : X → List Z) (step : (x : X) (rest : List X) → code (x ∷ rest) ≡ one x ++ code rest) where
  -- what is written and what is left are all, and the next one is written
  pub next_written : (xs : List X) (i : ℕ) (x d : X) (old new all : List Z) → i < length xs → x ≡ get_or xs i d → new ≡ old ++ one x
      → old ++ code (drop i xs) ≡ all → new ++ code (drop (i + 1) xs) ≡ all
  next_written xs i x d old new all within is written before =
      let rest = drop (i + 1) xs in
      ap (λ l. l ++ code rest) written ∙ append_assoc old (one x) (code rest) ∙ ap (λ l. old ++ l) (sym (step x rest))
      ∙ ap (λ l. old ++ code l) (ap (λ y. y ∷ rest) is ∙ sym (drop_more xs i d within)) ∙ before

-- what is written and what is left are all, and nothing is left
pub all_written : {X Z : Type 0} (code : List X → List Z) (xs : List X) (i : ℕ) (old new all : List Z) → length xs ≤ i → new ≡ old ++ code []
    → old ++ code (drop i xs) ≡ all → new ≡ all
all_written code xs i old new all end written before = written ∙ ap (λ l. old ++ code l) (sym (drop_all i xs end)) ∙ before
