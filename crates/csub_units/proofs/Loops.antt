-- Lists one after the other and as a whole.
use Rattle.std.proofs.Common.{◌≡◌, ◌∙◌, sym, ap, ℕ, ◌+◌, ◌<◌, List, ◌∷◌, length, map, drop, get_or, Option}
use Rattle.std.proofs.lemmas.List.{drop_more}
use Rattle.csub_rules.specs.declared.fault.Fault.{Fault}
use Rattle.csub_rules.specs.Faults.{◌or_earlier◌}
use Rattle.csub_rules.proofs.LawsEarlier.{earlier_assoc}

pub dropped : {X : Type 0} (xs : List X) (i : ℕ) (x : X) → i < length xs → x ≡ get_or xs i x → x ∷ drop (i + 1) xs ≡ drop i xs
dropped xs i x h e = sym (drop_more xs i x h ∙ ap (λ y. y ∷ drop (i + 1) xs) (sym e))

-- What a list of trees comes to, from a state on: S are states, X what the code has, T their trees, and R what is found.
module _ {S X T R : Type 0} (tree : X → T) (past : S → T → S) (all : S → List T → R) where
  -- what is behind one and then behind those that are left is what is behind those with it
  pub one_more : ((s : S) (t : T) (ts : List T) → all s (t ∷ ts) ≡ all (past s t) ts) → (s k : S) (xs : List X) (i : ℕ) (x : X)
      → i < length xs → x ≡ get_or xs i x → k ≡ past s (tree x) → all k (map tree (drop (i + 1) xs)) ≡ all s (map tree (drop i xs))
  one_more step s k xs i x h e p =
      ap (λ (j : S). all j (map tree (drop (i + 1) xs))) p ∙ sym (step s (tree x) (map tree (drop (i + 1) xs)))
      ∙ ap (λ ys. all s (map tree ys)) (dropped xs i x h e)

-- The same of faults, where `fault` is that of one.
module _ {S X T : Type 0} (tree : X → T) (past : S → T → S) (fault : S → T → Option Fault) (faults : S → List T → Option Fault) where
  pub one_fault_more : ((s : S) (t : T) (ts : List T) → faults s (t ∷ ts) ≡ (fault s t or_earlier faults (past s t) ts)) → (s k : S) (xs : List X)
      (i : ℕ) (x : X) (least this now : Option Fault) → i < length xs → x ≡ get_or xs i x → k ≡ past s (tree x) → this ≡ fault s (tree x)
      → now ≡ (least or_earlier this)
      → (now or_earlier faults k (map tree (drop (i + 1) xs))) ≡ (least or_earlier faults s (map tree (drop i xs)))
  one_fault_more step s k xs i x least this now h e p f n =
      let rest : List T = map tree (drop (i + 1) xs) in
      ap (λ o. o or_earlier faults k rest) n ∙ ap (λ (j : S). (least or_earlier this) or_earlier faults j rest) p
      ∙ ap (λ o. (least or_earlier o) or_earlier faults (past s (tree x)) rest) f
      ∙ earlier_assoc least (fault s (tree x)) (faults (past s (tree x)) rest)
      ∙ ap (λ o. least or_earlier o) (sym (step s (tree x) rest) ∙ ap (λ ys. faults s (map tree ys)) (dropped xs i x h e))
