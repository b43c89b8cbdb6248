-- Numbers in order.
use Rattle.std.proofs.Common.{ℕ, zero, suc, ◌≡◌, ◌<◌, ◌⊎◌, inl, inr, refl, ap, arith}

-- two numbers are equal, or one is below the other
pub in_order : (n m : ℕ) → (n ≡ m) ⊎ (n < m) ⊎ (m < n)
in_order zero zero = inl refl
in_order zero (suc m) = inr (inl (omega arith))
in_order (suc n) zero = inr (inr (omega arith))
in_order (suc n) (suc m) = elim (in_order n m) [ inl e ↦ inl (ap (λ k. suc k) e) | inr r ↦ elim r [ inl l ↦ inr (inl (omega arith)) | inr l ↦ inr (inr (omega arith)) ] ]
