-- Products and quotients fit 64 bits.
use Rattle.std.proofs.Common.{◌≡◌, refl, sym, subst, arith, ℕ, zero, suc, ℤ, pos, negsuc, ◌≤ℤ◌, ◌*ℤ◌, ◌≤◌, ◌<◌, ◌*◌, ◌%◌, of_z, to_z, w64, Fits}
use Rattle.std.specs.Prelude.{unsigned_abs, neg_ℤ, ◌/◌}
use Rattle.std.specs.Int.RustNames.{FitsSigned, int_div}
use Rattle.std.proofs.lemmas.Int.{ints, to_z-of_z, to_z_pos, fits_signed_mul, fits_signed_from_abs}
use Rattle.std.proofs.Math.Nat.{mul-le-mul}
use native.Mathlib.Nat.{div-le_self}
use Rattle.csub_types.specs.declared.kind.IntKind.{IntKind}
use Rattle.csub_types.specs.declared.kind.IntKind.TheVariants.{Char, Int, Unsigned}
use Rattle.csub_types.specs.Kinds.{IsOf, IsPromoted, convert}
use Rattle.csub_types.specs.Shifts.{IsOfEither}

-- a number that is passed arrives as it is
pub passed : (z : ℤ) → FitsSigned w64 z → z ≡ to_z w64 (of_z w64 z)
passed z f = sym (to_z-of_z w64 z f)

int_abs : (z : ℤ) → IsOf Int z → unsigned_abs z ≤ 2147483648
int_abs (pos n) f = omega (arith, ints, f.1)
int_abs (negsuc n) f = omega (arith, ints, f.0)

-- products of `int`
pub product_fits : (k : IntKind) (a b : ℤ) → IsPromoted k → ¬ (k ≡ Unsigned) → IsOf k a → IsOf k b → FitsSigned w64 (a *ℤ b)
product_fits Char a b p n f g = absurd p
product_fits Int a b p n f g = fits_signed_mul w64 a b 2147483648 2147483648 (int_abs a f) (int_abs b g) (omega arith)
product_fits Unsigned a b p n f g = absurd (n refl)

pub passed_product_fits : (a b : ℤ) → FitsSigned w64 a → FitsSigned w64 b → FitsSigned w64 (a *ℤ b)
    → FitsSigned w64 (to_z w64 (of_z w64 a) *ℤ to_z w64 (of_z w64 b))
passed_product_fits a b f g h =
    subst (λ x. FitsSigned w64 (x *ℤ to_z w64 (of_z w64 b))) (passed a f) (subst (λ y. FitsSigned w64 (a *ℤ y)) (passed b g) h)

-- products of `unsigned int`, which fit 64 bits without a sign alone
unsigned_product : (m n : ℕ) → m ≤ 4294967295 → n ≤ 4294967295 → m * n < 18446744073709551616
unsigned_product m n h k = omega (arith, mul-le-mul h k)

of_unsigned : (n : ℕ) → IsOf Unsigned (pos n) → n ≤ 4294967295
of_unsigned n f = omega (arith, ints, f.1)

pub unsigned_fits : (a b : ℤ) → IsOf Unsigned a → IsOf Unsigned b → Fits w64 (unsigned_abs a * unsigned_abs b)
unsigned_fits (pos m) (pos n) f g = record { fits = unsigned_product m n (of_unsigned m f) (of_unsigned n g) }
unsigned_fits (negsuc m) b f g = absurd (omega (arith, ints, f.0))
unsigned_fits (pos m) (negsuc n) f g = absurd (omega (arith, ints, g.0))

pub unsigned_wraps : (a b : ℤ) → IsOf Unsigned a → IsOf Unsigned b → to_z w64 ((unsigned_abs a * unsigned_abs b) % 4294967296) ≡ convert Unsigned (a *ℤ b)
unsigned_wraps (pos m) (pos n) f g = to_z_pos w64 ((m * n) % 4294967296) (omega arith)
unsigned_wraps (negsuc m) b f g = absurd (omega (arith, ints, f.0))
unsigned_wraps (pos m) (negsuc n) f g = absurd (omega (arith, ints, g.0))

-- products with a power of 2
either_abs : (z : ℤ) → IsOfEither z → unsigned_abs z ≤ 4294967295
either_abs (pos n) f = omega (arith, ints, f.1)
either_abs (negsuc n) f = omega (arith, ints, f.0)

power_abs : (z : ℤ) → pos 1 ≤ℤ z → z ≤ℤ pos 2147483648 → unsigned_abs z ≤ 2147483648
power_abs (pos n) f g = omega (arith, ints, g)
power_abs (negsuc n) f g = absurd (omega (arith, ints, f))

pub scaled_fits : (a p : ℤ) → IsOfEither a → pos 1 ≤ℤ p → p ≤ℤ pos 2147483648 → FitsSigned w64 (a *ℤ p)
scaled_fits a p f g h = fits_signed_mul w64 a p 4294967295 2147483648 (either_abs a f) (power_abs p g h) (omega arith)

-- quotients: none is farther from 0 than what is divided
neg_abs : (n : ℕ) → unsigned_abs (neg_ℤ (pos n)) ≡ n
neg_abs zero = refl
neg_abs (suc n) = refl

quotient_abs : (a b : ℤ) → unsigned_abs (int_div a b) ≤ unsigned_abs a
quotient_abs (pos a) (pos b) = div-le_self a b
quotient_abs (pos a) (negsuc b) = subst (λ q. q ≤ a) (sym (neg_abs (a / suc b))) (div-le_self a (suc b))
quotient_abs (negsuc a) (pos b) = subst (λ q. q ≤ suc a) (sym (neg_abs (suc a / b))) (div-le_self (suc a) b)
quotient_abs (negsuc a) (negsuc b) = div-le_self (suc a) (suc b)

promoted_abs : (k : IntKind) (z : ℤ) → IsPromoted k → IsOf k z → unsigned_abs z ≤ 4294967295
promoted_abs Char z p f = absurd p
promoted_abs Int z p f = let h = int_abs z f in omega arith
promoted_abs Unsigned (pos n) p f = of_unsigned n f
promoted_abs Unsigned (negsuc n) p f = absurd (omega (arith, ints, f.0))

pub quotient_fits : (k : IntKind) (a b : ℤ) → IsPromoted k → IsOf k a → FitsSigned w64 (int_div a b)
quotient_fits k a b p f = let bound = promoted_abs k a p f in let less = quotient_abs a b in fits_signed_from_abs w64 (int_div a b) (omega arith)

pub passed_quotient_fits : (k : IntKind) (a b : ℤ) → IsPromoted k → IsOf k a → FitsSigned w64 a → FitsSigned w64 b
    → FitsSigned w64 (int_div (to_z w64 (of_z w64 a)) (to_z w64 (of_z w64 b)))
passed_quotient_fits k a b p f g h =
    subst (λ x. FitsSigned w64 (int_div x (to_z w64 (of_z w64 b)))) (passed a g)
    (subst (λ y. FitsSigned w64 (int_div a y)) (passed b h) (quotient_fits k a b p f))
