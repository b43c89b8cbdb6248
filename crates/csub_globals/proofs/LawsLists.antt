-- Lists of a source, one element after the other and as a whole.
use Rattle.std.proofs.Common.{◌≡◌, ◌∙◌, sym, ap, arith, ℕ, ◌+◌, ◌<◌, List, [], ◌∷◌, ◌++◌, length, map, drop, get_or, append_assoc, sum_by}
use Rattle.std.proofs.lemmas.List.{drop_more}
use Rattle.std.proofs.lemmas.List.Sums.{sum_by-append, sum_by-cons}

pub dropped : {X : Type 0} (xs : List X) (i : ℕ) (x : X) → i < length xs → x ≡ get_or xs i x → x ∷ drop (i + 1) xs ≡ drop i xs
dropped xs i x h e = sym (drop_more xs i x h ∙ ap (λ y. y ∷ drop (i + 1) xs) (sym e))

-- S is what an element sees, X are elements as the code has them, and T their trees.
module _ {S X T : Type 0} (tree : X → T) (past : S → T → S) where
  -- what is behind one and then behind those that are left is what is behind those with it
  pub past_more : (all : S → List T → S) → ((s : S) (t : T) (ts : List T) → all s (t ∷ ts) ≡ all (past s t) ts) → (s k : S) (xs : List X) (i : ℕ) (x : X)
      → i < length xs → x ≡ get_or xs i x → k ≡ past s (tree x) → all k (map tree (drop (i + 1) xs)) ≡ all s (map tree (drop i xs))
  past_more all step s k xs i x h e p =
      ap (λ (j : S). all j (map tree (drop (i + 1) xs))) p ∙ sym (step s (tree x) (map tree (drop (i + 1) xs)))
      ∙ ap (λ ys. all s (map tree ys)) (dropped xs i x h e)

  -- `one` is what an element comes to, and `all` what a list of them comes to.
  module _ {R : Type 0} (one : S → T → List R) (all : S → List T → List R)
      (step : (s : S) (t : T) (ts : List T) → all s (t ∷ ts) ≡ one s t ++ all (past s t) ts) (s k : S) (xs : List X) (i : ℕ) (x : X)
      (h : i < length xs) (e : x ≡ get_or xs i x) (p : k ≡ past s (tree x)) where
    parted : all s (map tree (drop i xs)) ≡ one s (tree x) ++ all k (map tree (drop (i + 1) xs))
    parted =
        sym (ap (λ ys. all s (map tree ys)) (dropped xs i x h e)) ∙ step s (tree x) (map tree (drop (i + 1) xs))
        ∙ ap (λ (j : S). one s (tree x) ++ all j (map tree (drop (i + 1) xs))) (sym p)

    pub made_more : (old new : List R) → new ≡ old ++ one s (tree x)
        → new ++ all k (map tree (drop (i + 1) xs)) ≡ old ++ all s (map tree (drop i xs))
    made_more old new n =
        let rest : List R = all k (map tree (drop (i + 1) xs)) in
        ap (λ rs. rs ++ rest) n ∙ append_assoc old (one s (tree x)) rest ∙ ap (λ rs. old ++ rs) (sym parted)

    pub count_more : (size : R → ℕ) (old new : ℕ) → new ≡ old + sum_by size (one s (tree x))
        → new + sum_by size (all k (map tree (drop (i + 1) xs))) ≡ old + sum_by size (all s (map tree (drop i xs)))
    count_more size old new n =
        let rest : List R = all k (map tree (drop (i + 1) xs)) in
        let total : sum_by size (all s (map tree (drop i xs))) ≡ sum_by size (one s (tree x)) + sum_by size rest =
        ap (sum_by size) parted ∙ sum_by-append size (one s (tree x)) rest in
        omega arith

pub one_counted : {R : Type 0} (size : R → ℕ) (r : R) → sum_by size (r ∷ []) ≡ size r
one_counted size r = let e = sum_by-cons size r [] in omega arith
