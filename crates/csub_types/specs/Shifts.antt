-- What `<<` and `>>` give (C11 6.5.7).
use Rattle.std.specs.Prelude.{◌^◌, ℤ, pos, negsuc, ◌*ℤ◌, ◌≤ℤ◌, Bool, ◌&&◌, Result, Ok, Err, unsigned_abs, if◌then◌else◌}
use Rattle.std.specs.Int.{int_div_euclid}
use Rattle.std.specs.Int.RustNames.{int_le}
use Rattle.csub_types.specs.declared.kind.IntKind.{IntKind}
use Rattle.csub_types.specs.declared.kind.IntKind.TheVariants.{Unsigned}
use Rattle.csub_types.specs.declared.trap.Trap.{Trap}
use Rattle.csub_types.specs.declared.trap.Trap.TheVariants.{Shift}
use Rattle.csub_types.specs.Kinds.{convert}

-- A count of bits: from 0 to 31. Another count is undefined in C (6.5.7p3): here it traps.
abbrev pub is_count : ℤ → Bool
is_count b = int_le (pos 0) b && int_le b (pos 31)

-- 2 to the power of a count.
abbrev pub power : ℤ → ℤ
power b = pos (2 ^ unsigned_abs b)

-- a * 2^b (6.5.7p4), wrapped where the kind is `unsigned int`.
-- Otherwise C leaves a negative a, or a product that `int` does not have, undefined: here they trap.
abbrev pub shifted_left : IntKind → ℤ → ℤ → Result ℤ Trap
shifted_left Unsigned a b = if is_count b then Ok (convert Unsigned (a *ℤ power b)) else Err Shift
shifted_left k a b =
    if is_count b && int_le (pos 0) a && int_le (a *ℤ power b) (pos 2147483647) then Ok (a *ℤ power b) else Err Shift

-- a / 2^b, rounded down (6.5.7p5). C leaves the value for a negative a to the implementation: here it is rounded down too.
abbrev pub shifted_right : ℤ → ℤ → Result ℤ Trap
shifted_right a b = if is_count b then Ok (int_div_euclid a (power b)) else Err Shift

-- A number of `int` or of `unsigned int`.
abbrev pub IsOfEither : ℤ → Type 0
IsOfEither z = (negsuc 2147483647 ≤ℤ z) × (z ≤ℤ pos 4294967295)
