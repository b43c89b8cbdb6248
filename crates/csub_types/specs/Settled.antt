-- What becomes of an exact result.
use Rattle.std.specs.Prelude.{ℤ, pos, negsuc, Bool, ◌&&◌, Result, Ok, Err, if◌then◌else◌}
use Rattle.std.specs.Int.RustNames.{int_le}
use Rattle.csub_types.specs.declared.kind.IntKind.{IntKind}
use Rattle.csub_types.specs.declared.kind.IntKind.TheVariants.{Unsigned}
use Rattle.csub_types.specs.declared.trap.Trap.{Trap}
use Rattle.csub_types.specs.declared.trap.Trap.TheVariants.{Overflow}
use Rattle.csub_types.specs.Kinds.{convert}

-- A number that `int` has.
abbrev pub fits_int : ℤ → Bool
fits_int z = int_le (negsuc 2147483647) z && int_le z (pos 2147483647)

-- An exact result wraps where the kind is `unsigned int` (C11 6.2.5p9).
-- Otherwise a result that `int` does not have is undefined in C (6.5p5): here it traps.
abbrev pub settled : IntKind → ℤ → Result ℤ Trap
settled Unsigned z = Ok (convert Unsigned z)
settled k z = if fits_int z then Ok z else Err Overflow

-- 1 or 0, as `!`, comparisons, `&&` and `||` give (C11 6.5.3.3p5, 6.5.8p6, 6.5.9p3, 6.5.13p3 and 6.5.14p3).
abbrev pub truth : Bool → ℤ
truth b = if b then pos 1 else pos 0
