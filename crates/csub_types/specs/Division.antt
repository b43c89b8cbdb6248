-- What `/` and `%` give (C11 6.5.5p5 and p6).
use Rattle.std.specs.Prelude.{◌<◌, ◌≡◌, ℤ, pos, ◌+ℤ◌, ◌*ℤ◌, ◌≤ℤ◌, Result, Ok, Err, unsigned_abs, if◌then◌else◌}
use Rattle.std.specs.Int.RustNames.{int_div, int_rem}
use Rattle.std.specs.Ordering.{int_eq}
use Rattle.std.specs.Result.{result_and}
use Rattle.csub_types.specs.declared.kind.IntKind.{IntKind}
use Rattle.csub_types.specs.declared.trap.Trap.{Trap}
use Rattle.csub_types.specs.declared.trap.Trap.TheVariants.{Divide}
use Rattle.csub_types.specs.Settled.{settled}

-- C's law of `/` and `%`: a = q * b + r, and the fraction is dropped, so r is closer to 0 than b and has a's sign.
pub record DividesTo (a b q r : ℤ) : Type 0 where
  pub whole : a ≡ q *ℤ b +ℤ r
  pub small : unsigned_abs r < unsigned_abs b
  pub not_below : pos 0 ≤ℤ a → pos 0 ≤ℤ r
  pub not_above : a ≤ℤ pos 0 → r ≤ℤ pos 0

-- The quotient, cut toward 0. C leaves a divisor of 0 undefined: here it traps.
-- `divide` and `remain` promise that `int_div` and `int_rem` are the q and r of `DividesTo`.
abbrev pub quotient : IntKind → ℤ → ℤ → Result ℤ Trap
quotient k a b = if int_eq b (pos 0) then Err Divide else settled k (int_div a b)

-- The remainder. C leaves it undefined where the quotient is: so it has the quotient's traps.
abbrev pub remainder : IntKind → ℤ → ℤ → Result ℤ Trap
remainder k a b = result_and (quotient k a b) (Ok (int_rem a b))
