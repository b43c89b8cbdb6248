-- What an answer says of one set says of another, and with one more number.
use Rattle.std.proofs.Common.{◌≡◌, ℕ, Bool, true, false, cond, refl, sym, ap, ◌∙◌, ◌⊎◌, inl, inr, arith}
use Rattle.std.specs.Prelude.{nat_eq}
use Rattle.std.proofs.lemmas.Bool.Decides.{nat_tests}
use Rattle.edge_images.specs.declared.image.Image.{Image}
use Rattle.edge_images.specs.declared.image.Image.TheVariants.{Absent, One, Many}
use Rattle.edge_images.specs.Images.{Says}
use Rattle.edge_images.specs.Partly.{with_edge}

equal : (k i : ℕ) → nat_eq k i ≡ true → k ≡ i
equal k i e = grind (arith, nat_tests)

apart : (k i : ℕ) → nat_eq k i ≡ false → k ≡ i → ⊥
apart k i e same = grind (arith, nat_tests)

module _ (S T : ℕ → Type 0) (to : (j : ℕ) → S j → T j) where
  pub says_same : ((j : ℕ) → T j → S j) → (a : Image) → Says S a → Says T a
  says_same from Absent h = λ j t. h j (from j t)
  says_same from (One k) h = (to k h.0, λ j t. h.1 j (from j t))
  says_same from Many h = (h.0, h.1, to h.0 h.2, to h.1 h.3, h.4)

  pub says_with : (i : ℕ) → T i → ((j : ℕ) → T j → S j ⊎ (j ≡ i)) → (a : Image) → Says S a → Says T (with_edge a i)
  says_with i own from Absent h = (own, λ j t. pick j (from j t))
    where
      pick : (j : ℕ) → S j ⊎ (j ≡ i) → j ≡ i
      pick j (inl s) = absurd (h j s)
      pick j (inr e) = e
  says_with i own from (One k) h = by (nat_eq k i) refl
    where
      by : (b : Bool) → nat_eq k i ≡ b → Says T (cond b (One k) Many)
      by true e = (to k h.0, λ j t. pick j (from j t))
        where
          pick : (j : ℕ) → S j ⊎ (j ≡ i) → j ≡ k
          pick j (inl s) = h.1 j s
          pick j (inr same) = same ∙ sym (equal k i e)
      by false e = (k, i, to k h.0, own, λ same. apart k i e same)
  says_with i own from Many h = (h.0, h.1, to h.0 h.2, to h.1 h.3, h.4)

-- one answer alone says it
pub says_one : (S : ℕ → Type 0) (a b : Image) → Says S a → Says S b → a ≡ b
says_one S Absent Absent h g = refl
says_one S Absent (One m) h g = absurd (h m g.0)
says_one S Absent Many h g = absurd (h g.0 g.2)
says_one S (One k) Absent h g = absurd (g k h.0)
says_one S (One k) (One m) h g = ap One (g.1 k h.0)
says_one S (One k) Many h g = absurd (g.4 (h.1 g.0 g.2 ∙ sym (h.1 g.1 g.3)))
says_one S Many Absent h g = absurd (g h.0 h.2)
says_one S Many (One m) h g = absurd (h.4 (g.1 h.0 h.2 ∙ sym (g.1 h.1 h.3)))
says_one S Many Many h g = refl
