-- The law of `/` and `%`.
use Rattle.std.proofs.Common.{◌≡◌, refl, sym, ap, subst, IfOk, zero, suc, ◌<◌, arith, Bool, true, false, ℤ, pos, negsuc, ◌≤ℤ◌, unsigned_abs, if◌then◌else◌}
use Rattle.std.specs.Prelude.{◌≢◌, Result, Ok, Err}
use Rattle.std.specs.Ordering.{int_eq}
use native.Mathlib.Nat.{div-le_self, mod-eq_of_lt}
use Rattle.std.proofs.lemmas.Int.{ints, quot-rem, rem_below}
use Rattle.std.specs.Int.RustNames.{int_div, int_rem}
use Rattle.csub_types.specs.declared.kind.IntKind.{IntKind}
use Rattle.csub_types.specs.declared.kind.IntKind.TheVariants.{Char, Int, Unsigned}
use Rattle.csub_types.specs.declared.trap.Trap.{Trap}
use Rattle.csub_types.specs.declared.trap.Trap.TheVariants.{Overflow, Divide}
use Rattle.csub_types.specs.Kinds.{IsOf, convert}
use Rattle.csub_types.specs.Settled.{settled, fits_int}
use Rattle.csub_types.specs.Division.{DividesTo, quotient}

-- a divisor is not 0, so there is room for a remainder
some : (b : ℤ) → b ≢ pos 0 → 0 < unsigned_abs b
some (pos zero) n = absurd (n refl)
some (pos (suc b)) n = omega arith
some (negsuc b) n = omega arith

-- the remainder has the sign of what is divided
rem_not_below : (a b : ℤ) → pos 0 ≤ℤ a → pos 0 ≤ℤ int_rem a b
rem_not_below (pos a) b h = omega (arith, ints)
rem_not_below (negsuc a) b h = absurd (omega (arith, ints))

rem_not_above : (a b : ℤ) → a ≤ℤ pos 0 → int_rem a b ≤ℤ pos 0
rem_not_above (pos zero) b h = omega (arith, ints)
rem_not_above (pos (suc a)) b h = absurd (omega (arith, ints))
rem_not_above (negsuc a) b h = omega (arith, ints)

pub divides : (a b : ℤ) → b ≢ pos 0 → DividesTo a b (int_div a b) (int_rem a b)
divides a b n = record {
  whole = sym (quot-rem a b);
  small = rem_below a b (some b n);
  not_below = rem_not_below a b;
  not_above = rem_not_above a b;
}

-- what a test for 0 knows
not_zero : (b : ℤ) → int_eq b (pos 0) ≡ false → b ≢ pos 0
not_zero b e h = let zero_is : int_eq (pos 0) (pos 0) ≡ false = subst (λ z. int_eq z (pos 0) ≡ false) h e in absurd (grind (arith, zero_is))

-- a quotient of `unsigned int` does not wrap
kept : (a b : ℤ) → IsOf Unsigned a → IsOf Unsigned b → convert Unsigned (int_div a b) ≡ int_div a b
kept (pos a) (pos b) f g = let small : a < 4294967296 = omega (arith, ints, f.1) in ap pos (mod-eq_of_lt (omega (arith, div-le_self a b)))
kept (pos a) (negsuc b) f g = absurd (omega (arith, ints, g.0))
kept (negsuc a) b f g = absurd (omega (arith, ints, f.0))

-- a test that traps where it fails
abbrev tested : Bool → ℤ → Trap → Result ℤ Trap
tested t z e = if t then Ok z else Err e

checked : (P : ℤ → Type 0) (t : Bool) (z : ℤ) (e : Trap) → P z → IfOk (tested t z e) P
checked P true z e p = p
checked P false z e p = tt

settled_quotient : (k : IntKind) (a b : ℤ) → IsOf k a → IsOf k b → b ≢ pos 0 → IfOk (settled k (int_div a b)) (λ q. DividesTo a b q (int_rem a b))
settled_quotient Char a b f g n = checked (λ q. DividesTo a b q (int_rem a b)) (fits_int (int_div a b)) (int_div a b) Overflow (divides a b n)
settled_quotient Int a b f g n = checked (λ q. DividesTo a b q (int_rem a b)) (fits_int (int_div a b)) (int_div a b) Overflow (divides a b n)
settled_quotient Unsigned a b f g n = subst (λ q. DividesTo a b q (int_rem a b)) (sym (kept a b f g)) (divides a b n)

pub quotient_divides : (k : IntKind) (a b : ℤ) → IsOf k a → IsOf k b → IfOk (quotient k a b) (λ q. DividesTo a b q (int_rem a b))
quotient_divides k a b f g = by (int_eq b (pos 0)) refl
  where
    by : (t : Bool) → int_eq b (pos 0) ≡ t → IfOk (if t then Err Divide else settled k (int_div a b)) (λ q. DividesTo a b q (int_rem a b))
    by true e = tt
    by false e = settled_quotient k a b f g (not_zero b e)

tested_zero : (b : ℤ) → b ≢ pos 0 → int_eq b (pos 0) ≡ false
tested_zero (pos zero) n = absurd (n refl)
tested_zero (pos (suc b)) n = grind arith
tested_zero (negsuc b) n = refl

-- a divisor that is not 0 traps only where the quotient overflows
pub quotient_is : (k : IntKind) (a b : ℤ) → b ≢ pos 0 → settled k (int_div a b) ≡ quotient k a b
quotient_is k a b n = ap (λ t. if t then Err Divide else settled k (int_div a b)) (sym (tested_zero b n))
