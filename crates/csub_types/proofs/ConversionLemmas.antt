-- A conversion gives the number of a kind that has the same low bits.
use Rattle.std.proofs.Common.{◌≡◌, arith, ℤ, pos, negsuc}
use Rattle.std.proofs.lemmas.Int.{ints}
use Rattle.csub_types.specs.declared.kind.IntKind.{IntKind}
use Rattle.csub_types.specs.declared.kind.IntKind.TheVariants.{Char, Int, Unsigned}
use Rattle.csub_types.specs.Kinds.{IsOf, IsCongruent, convert}

pub convert_of_kind : (k : IntKind) (z : ℤ) → IsOf k (convert k z)
convert_of_kind Char (pos a) = (omega (arith, ints), omega (arith, ints))
convert_of_kind Char (negsuc a) = (omega (arith, ints), omega (arith, ints))
convert_of_kind Int (pos a) = (omega (arith, ints), omega (arith, ints))
convert_of_kind Int (negsuc a) = (omega (arith, ints), omega (arith, ints))
convert_of_kind Unsigned (pos a) = (omega (arith, ints), omega (arith, ints))
convert_of_kind Unsigned (negsuc a) = (omega (arith, ints), omega (arith, ints))

pub convert_congruent : (k : IntKind) (z : ℤ) → IsCongruent k z (convert k z)
convert_congruent Char (pos a) = grind (arith, ints)
convert_congruent Char (negsuc a) = grind (arith, ints)
convert_congruent Int (pos a) = grind (arith, ints)
convert_congruent Int (negsuc a) = grind (arith, ints)
convert_congruent Unsigned (pos a) = grind (arith, ints)
convert_congruent Unsigned (negsuc a) = grind (arith, ints)

pub convert_same : (k : IntKind) (z : ℤ) → IsOf k z → convert k z ≡ z
convert_same Char z f = grind (arith, ints)
convert_same Int z f = grind (arith, ints)
convert_same Unsigned z f = grind (arith, ints)
