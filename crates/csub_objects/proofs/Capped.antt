-- Numbers of cells, cut at 65,537.
use Rattle.std.proofs.Common.{◌≡◌, ℕ, zero, suc, ◌+◌, ◌*◌, ◌<◌, ◌∙◌, ap, subst, ⊎_elim, arith}
use Rattle.std.proofs.Math.Nat.{mul_comm}
use Rattle.std.proofs.lemmas.Bool.{cases_lt}
use Rattle.csub_objects.specs.Types.{IsCapped}

times-above : (c n k r : ℕ) → 65536 < n → c ≡ 65537 → IsCapped r (c * k) → IsCapped r (k * n)
times-above c n zero r h e s =
    let none : c * 0 ≡ 0 * n = omega arith in
    subst (λ x. IsCapped r x) none s
times-above c n (suc k) r h e s =
    let much : suc k * n ≡ n + k * n = omega arith in
    let more : c * suc k ≡ c + c * k = omega arith in
    record {
      exact = λ b. absurd (omega arith);
      above = λ b. s.above (omega arith);
      small = s.small;
    }

pub capped-times : (c n k r : ℕ) → IsCapped c n → IsCapped r (c * k) → IsCapped r (k * n)
capped-times c n k r h s =
    ⊎_elim
    (λ b. times-above c n k r b (h.above b) s)
    (λ b. let e : c * k ≡ k * n = ap (λ x. x * k) (h.exact b) ∙ mul_comm n k in subst (λ x. IsCapped r x) e s)
    (cases_lt 65536 n)

pub capped-plus : (a m b n r : ℕ) → IsCapped a m → IsCapped b n → IsCapped r (a + b) → IsCapped r (m + n)
capped-plus a m b n r g h s =
    ⊎_elim
    (λ p. let e : a ≡ 65537 = g.above p in record { exact = λ q. absurd (omega arith); above = λ q. s.above (omega arith); small = s.small })
    (λ p. let d : a ≡ m = g.exact p in
    ⊎_elim
    (λ q. let e : b ≡ 65537 = h.above q in record { exact = λ x. absurd (omega arith); above = λ x. s.above (omega arith); small = s.small })
    (λ q. let e : b ≡ n = h.exact q in subst (λ x. IsCapped r x) (ap (λ x. x + b) d ∙ ap (λ x. m + x) e) s)
    (cases_lt 65536 n))
    (cases_lt 65536 m)
