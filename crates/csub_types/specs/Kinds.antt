-- Kinds of numbers: which numbers they have, and how a number goes from one to another.
use Rattle.std.specs.Prelude.{ℕ, ◌≡◌, ℤ, pos, negsuc, ◌-ℤ◌, ◌≤ℤ◌, unsigned_abs}
use Rattle.std.specs.Int.{int_rem_euclid, cast_signed, w8, w32}
use Rattle.csub_types.specs.declared.kind.IntKind.{IntKind}
use Rattle.csub_types.specs.declared.kind.IntKind.TheVariants.{Char, Int, Unsigned}

-- The numbers of a kind; `negsuc n` is -n - 1. C11 6.2.5 and 6.2.6.2 leave open whether `char` has a sign, the widths,
-- and how negative numbers are held: here `char` has a sign and 8 bits, the others have 32, in two's complement.
abbrev pub IsOf : IntKind → ℤ → Type 0
IsOf Char z = (negsuc 127 ≤ℤ z) × (z ≤ℤ pos 127)
IsOf Int z = (negsuc 2147483647 ≤ℤ z) × (z ≤ℤ pos 2147483647)
IsOf Unsigned z = (pos 0 ≤ℤ z) × (z ≤ℤ pos 4294967295)

-- A kind that the integer promotions leave as it is, so one that operators have: every kind but `char`.
abbrev pub IsPromoted : IntKind → Type 0
IsPromoted Char = ⊥
IsPromoted Int = Unit {0}
IsPromoted Unsigned = Unit {0}

-- The integer promotions (C11 6.3.1.1p2): `char` becomes `int`, which has all its numbers.
abbrev pub promote : IntKind → IntKind
promote Char = Int
promote Int = Int
promote Unsigned = Unsigned

-- The usual arithmetic conversions (C11 6.3.1.8p1): after the promotions, `unsigned int` if one operand has it, else `int`.
abbrev pub common : IntKind → IntKind → IntKind
common Unsigned b = Unsigned
common a Unsigned = Unsigned
common a b = Int

-- 2 to the power of the number of a kind's bits.
abbrev pub modulus : IntKind → ℤ
modulus Char = pos 256
modulus Int = pos 4294967296
modulus Unsigned = pos 4294967296

-- Two numbers with the same low bits: their difference is a multiple of the modulus.
abbrev pub IsCongruent : IntKind → ℤ → ℤ → Type 0
IsCongruent k a b = int_rem_euclid (a -ℤ b) (modulus k) ≡ pos 0

-- The low bits of a number, as many as the kind has.
abbrev pub low_bits : IntKind → ℤ → ℕ
low_bits k z = unsigned_abs (int_rem_euclid z (modulus k))

-- Conversion (C11 6.3.1.3) keeps the low bits: it gives the one number of the kind that is congruent to z.
-- Paragraph 3 leaves open what a number gives that `char` or `int` does not have: here its low bits, in two's complement.
abbrev pub convert : IntKind → ℤ → ℤ
convert Char z = cast_signed w8 (low_bits Char z)
convert Int z = cast_signed w32 (low_bits Int z)
convert Unsigned z = pos (low_bits Unsigned z)
