-- What holds of each element of a list by its number, where one more is pushed.
use Rattle.std.proofs.Common.{◌≡◌, ◌<◌, ◌≤◌, ◌∙◌, ◌⊎◌, ◌++◌, ◌∷◌, [], inl, inr, ℕ, List, length, length-append, get_or, arith, ap, sym, subst}
use Rattle.std.proofs.lemmas.Bool.{cases_lt}
use Rattle.std.proofs.lemmas.List.{get_or_append_left, get_or_push}

pub pushed : {X : Type 0} (Q : ℕ → X → Type 0) (xs ys : List X) (x : X) (n : ℕ) → ys ≡ xs ++ x ∷ [] → length xs ≡ n
    → ((k : ℕ) (m : X) → k < length xs → m ≡ get_or xs k m → Q k m) → Q n x → (k : ℕ) (m : X) → k < length ys → m ≡ get_or ys k m → Q k m
pushed Q xs ys x n items count each last k m below is =
    pick (subst (λ zs. k < length zs) items below) (is ∙ ap (λ zs. get_or zs k m) items) (cases_lt k (length xs))
  where
    pick : k < length (xs ++ x ∷ []) → m ≡ get_or (xs ++ x ∷ []) k m → (k < length xs) ⊎ (length xs ≤ k) → Q k m
    pick within is (inl before) = each k m before (is ∙ get_or_append_left xs (x ∷ []) m k before)
    pick within is (inr behind) =
        let at : length xs ≡ k = omega (arith, within, behind, length-append xs (x ∷ [])) in
        let same : m ≡ x = is ∙ get_or_push xs x m k at in
        subst (λ j. Q j m) (sym count ∙ at) (subst (Q n) (sym same) last)
