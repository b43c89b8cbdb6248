-- A result of an operator is a number of its kind.
use Rattle.std.proofs.Common.{◌≡◌, refl, arith, rules, IfOk, Bool, true, false, ℕ, ℤ, pos, negsuc, ◌≤ℤ◌, ◌*ℤ◌, suc, if◌then◌else◌, ◌+ℤ◌, ◌-ℤ◌}
use Rattle.std.specs.Prelude.{Result, Ok, Err, unsigned_abs, ◌&&◌, not, neg_ℤ, bit_and, bit_or, bit_xor}
use Rattle.std.specs.Int.{int_div_euclid}
use Rattle.std.specs.Int.RustNames.{int_rem, int_div, int_le, int_lt}
use Rattle.std.specs.Ordering.{int_eq}
use Rattle.std.specs.Result.{result_and}
use Rattle.std.proofs.lemmas.Int.{ints}
use native.Mathlib.Nat.{div-le_self, mod-le}
use Rattle.csub_types.specs.declared.kind.IntKind.{IntKind}
use Rattle.csub_types.specs.declared.kind.IntKind.TheVariants.{Char, Int, Unsigned}
use Rattle.csub_types.specs.declared.trap.Trap.{Trap}
use Rattle.csub_types.specs.declared.trap.Trap.TheVariants.{Overflow, Divide, Shift}
use Rattle.csub_types.specs.Kinds.{IsOf, IsPromoted, convert, low_bits}
use Rattle.csub_types.specs.Settled.{settled, fits_int, truth}
use Rattle.csub_types.specs.Division.{quotient, remainder}
use Rattle.csub_types.specs.Shifts.{shifted_left, shifted_right, is_count, power}
use Rattle.csub_text.specs.declared.operator.UnaryOp.{UnaryOp}
use Rattle.csub_text.specs.declared.operator.UnaryOp.TheVariants.{Plus, Minus, Not, Flip}
use Rattle.csub_text.specs.declared.operator.BinOp.{BinOp}
use Rattle.csub_text.specs.declared.operator.BinOp.TheVariants.{Mul, Div, Rem, Add, Sub, Shl, Shr, Lt, Gt, Le, Ge, Eq, Ne, BitAnd, BitXor, BitOr}
use Rattle.csub_types.specs.Arithmetic.{unary, binary, unary_kind, binary_kind}
use Rattle.csub_types.proofs.ConversionLemmas.{convert_of_kind}

-- what a test that traps lets through
tested : (P : ℤ → Type 0) (t : Bool) (z : ℤ) (e : Trap) → (t ≡ true → P z) → IfOk {T = ℤ} (if t then Ok z else Err e) P
tested P true z e p = p refl
tested P false z e p = tt

-- what a test tells
at_least : (low z : ℤ) → int_le low z ≡ true → low ≤ℤ z
at_least low z e = grind (arith, ints)

both : (s t : Bool) → s && t ≡ true → (s ≡ true) × (t ≡ true)
both true t e = (refl, e)
both false t e = absurd (cc)

int_fits : (z : ℤ) → fits_int z ≡ true → IsOf Int z
int_fits z e = let p = both (int_le (negsuc 2147483647) z) (int_le z (pos 2147483647)) e in (at_least _ _ p.0, at_least _ _ p.1)

-- what each kind of operator gives
pub settled_of_kind : (k : IntKind) (z : ℤ) → IsPromoted k → IfOk (settled k z) (IsOf k)
settled_of_kind Char z p = absurd p
settled_of_kind Int z p = tested (IsOf Int) (fits_int z) z Overflow (int_fits z)
settled_of_kind Unsigned z p = convert_of_kind Unsigned z

pub truth_of_kind : (k : IntKind) (t : Bool) → IsOf k (truth t)
truth_of_kind Char true = search rules
truth_of_kind Char false = search rules
truth_of_kind Int true = search rules
truth_of_kind Int false = search rules
truth_of_kind Unsigned true = search rules
truth_of_kind Unsigned false = search rules

-- the remainder is as far from 0 as what is divided, or closer
rem_of_kind : (k : IntKind) (a b : ℤ) → IsOf k a → IsOf k (int_rem a b)
rem_of_kind Char (pos a) b f = let less = mod-le a (unsigned_abs b) in (omega (arith, ints), omega (arith, ints))
rem_of_kind Char (negsuc a) b f = let less = mod-le (suc a) (unsigned_abs b) in (omega (arith, ints), omega (arith, ints))
rem_of_kind Int (pos a) b f = let less = mod-le a (unsigned_abs b) in (omega (arith, ints), omega (arith, ints))
rem_of_kind Int (negsuc a) b f = let less = mod-le (suc a) (unsigned_abs b) in (omega (arith, ints), omega (arith, ints))
rem_of_kind Unsigned (pos a) b f = let less = mod-le a (unsigned_abs b) in (omega (arith, ints), omega (arith, ints))
rem_of_kind Unsigned (negsuc a) b f = absurd (omega (arith, ints, f.0))

after : (P : ℤ → Type 0) (q : Result ℤ Trap) (z : ℤ) → P z → IfOk (result_and q (Ok z)) P
after P (Ok q) z p = p
after P (Err e) z p = tt

pub remainder_of_kind : (k : IntKind) (a b : ℤ) → IsOf k a → IfOk (remainder k a b) (IsOf k)
remainder_of_kind k a b f = after (IsOf k) (quotient k a b) (int_rem a b) (rem_of_kind k a b f)

pub quotient_of_kind : (k : IntKind) (a b : ℤ) → IsPromoted k → IfOk (quotient k a b) (IsOf k)
quotient_of_kind k a b p = by (int_eq b (pos 0))
  where
    by : (t : Bool) → IfOk (if t then Err Divide else settled k (int_div a b)) (IsOf k)
    by true = tt
    by false = settled_of_kind k (int_div a b) p

shifted_of_int : (a b : ℤ) → is_count b && int_le (pos 0) a && int_le (a *ℤ power b) (pos 2147483647) ≡ true → IsOf Int (a *ℤ power b)
shifted_of_int a b e =
    let p = both (is_count b && int_le (pos 0) a) (int_le (a *ℤ power b) (pos 2147483647)) e in
    let q = both (is_count b) (int_le (pos 0) a) p.0 in
    (low a (at_least _ _ q.1), at_least _ _ p.1)
  where
    low : (a : ℤ) → pos 0 ≤ℤ a → negsuc 2147483647 ≤ℤ (a *ℤ power b)
    low (pos a) h = omega (arith, ints)
    low (negsuc a) h = absurd (omega (arith, ints))

pub shifted_left_of_kind : (k : IntKind) (a b : ℤ) → IsPromoted k → IfOk (shifted_left k a b) (IsOf k)
shifted_left_of_kind Char a b p = absurd p
shifted_left_of_kind Int a b p = tested (IsOf Int) _ (a *ℤ power b) Shift (shifted_of_int a b)
shifted_left_of_kind Unsigned a b p = tested (IsOf Unsigned) (is_count b) (convert Unsigned (a *ℤ power b)) Shift (λ _. convert_of_kind Unsigned (a *ℤ power b))

-- to shift to the right brings a number closer to 0, or to -1
shift_of_kind : (k : IntKind) (a : ℤ) (n : ℕ) → IsOf k a → IsOf k (int_div_euclid a (pos n))
shift_of_kind Char (pos a) n f = let less = div-le_self a n in (omega (arith, ints), omega (arith, ints))
shift_of_kind Char (negsuc a) n f = let less = div-le_self a n in (omega (arith, ints), omega (arith, ints))
shift_of_kind Int (pos a) n f = let less = div-le_self a n in (omega (arith, ints), omega (arith, ints))
shift_of_kind Int (negsuc a) n f = let less = div-le_self a n in (omega (arith, ints), omega (arith, ints))
shift_of_kind Unsigned (pos a) n f = let less = div-le_self a n in (omega (arith, ints), omega (arith, ints))
shift_of_kind Unsigned (negsuc a) n f = absurd (omega (arith, ints, f.0))

pub shifted_right_of_kind : (k : IntKind) (a b : ℤ) → IsOf k a → IfOk (shifted_right a b) (IsOf k)
shifted_right_of_kind k a b f = tested (IsOf k) (is_count b) (int_div_euclid a (power b)) Shift (λ _. shift_of_kind k a _ f)

-- what all of them give: a number of the operands' kind, and one of the result's
pub binary_of_kind : (op : BinOp) (k : IntKind) (a b : ℤ) → IsPromoted k → IsOf k a → IfOk (binary op k a b) (IsOf k)
binary_of_kind Mul k a b p f = settled_of_kind k (a *ℤ b) p
binary_of_kind Div k a b p f = quotient_of_kind k a b p
binary_of_kind Rem k a b p f = remainder_of_kind k a b f
binary_of_kind Add k a b p f = settled_of_kind k (a +ℤ b) p
binary_of_kind Sub k a b p f = settled_of_kind k (a -ℤ b) p
binary_of_kind Shl k a b p f = shifted_left_of_kind k a b p
binary_of_kind Shr k a b p f = shifted_right_of_kind k a b f
binary_of_kind Lt k a b p f = truth_of_kind k (int_lt a b)
binary_of_kind Gt k a b p f = truth_of_kind k (int_lt b a)
binary_of_kind Le k a b p f = truth_of_kind k (int_le a b)
binary_of_kind Ge k a b p f = truth_of_kind k (int_le b a)
binary_of_kind Eq k a b p f = truth_of_kind k (int_eq a b)
binary_of_kind Ne k a b p f = truth_of_kind k (not (int_eq a b))
binary_of_kind BitAnd k a b p f = convert_of_kind k (pos (bit_and (low_bits Int a) (low_bits Int b)))
binary_of_kind BitXor k a b p f = convert_of_kind k (pos (bit_xor (low_bits Int a) (low_bits Int b)))
binary_of_kind BitOr k a b p f = convert_of_kind k (pos (bit_or (low_bits Int a) (low_bits Int b)))

pub binary_of_result_kind : (op : BinOp) (k : IntKind) (a b : ℤ) → IsPromoted k → IsOf k a → IfOk (binary op k a b) (IsOf (binary_kind op k))
binary_of_result_kind Mul k a b p f = binary_of_kind Mul k a b p f
binary_of_result_kind Div k a b p f = binary_of_kind Div k a b p f
binary_of_result_kind Rem k a b p f = binary_of_kind Rem k a b p f
binary_of_result_kind Add k a b p f = binary_of_kind Add k a b p f
binary_of_result_kind Sub k a b p f = binary_of_kind Sub k a b p f
binary_of_result_kind Shl k a b p f = binary_of_kind Shl k a b p f
binary_of_result_kind Shr k a b p f = binary_of_kind Shr k a b p f
binary_of_result_kind Lt k a b p f = truth_of_kind Int (int_lt a b)
binary_of_result_kind Gt k a b p f = truth_of_kind Int (int_lt b a)
binary_of_result_kind Le k a b p f = truth_of_kind Int (int_le a b)
binary_of_result_kind Ge k a b p f = truth_of_kind Int (int_le b a)
binary_of_result_kind Eq k a b p f = truth_of_kind Int (int_eq a b)
binary_of_result_kind Ne k a b p f = truth_of_kind Int (not (int_eq a b))
binary_of_result_kind BitAnd k a b p f = binary_of_kind BitAnd k a b p f
binary_of_result_kind BitXor k a b p f = binary_of_kind BitXor k a b p f
binary_of_result_kind BitOr k a b p f = binary_of_kind BitOr k a b p f

pub unary_of_kind : (op : UnaryOp) (k : IntKind) (a : ℤ) → IsPromoted k → IsOf k a → IfOk (unary op k a) (IsOf k)
unary_of_kind Plus k a p f = f
unary_of_kind Minus k a p f = settled_of_kind k (neg_ℤ a) p
unary_of_kind Not k a p f = truth_of_kind k (int_eq a (pos 0))
unary_of_kind Flip k a p f = convert_of_kind k (negsuc 0 -ℤ a)

pub unary_of_result_kind : (op : UnaryOp) (k : IntKind) (a : ℤ) → IsPromoted k → IsOf k a → IfOk (unary op k a) (IsOf (unary_kind op k))
unary_of_result_kind Plus k a p f = unary_of_kind Plus k a p f
unary_of_result_kind Minus k a p f = unary_of_kind Minus k a p f
unary_of_result_kind Not k a p f = truth_of_kind Int (int_eq a (pos 0))
unary_of_result_kind Flip k a p f = unary_of_kind Flip k a p f
