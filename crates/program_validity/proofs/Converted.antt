-- A converted number is one of its kind.
use Rattle.std.proofs.Common.{ℤ, pos, negsuc, arith}
use Rattle.std.specs.Int.{int_wrap, w8, w32}
use Rattle.std.specs.Int.RustNames.{FitsSigned}
use Rattle.std.proofs.lemmas.Int.{ints, SFits-int_wrap}
use Rattle.csub_types.specs.declared.kind.IntKind.{IntKind}
use Rattle.csub_types.specs.declared.kind.IntKind.TheVariants.{Char, Int, Unsigned}
use Rattle.csub_types.specs.Kinds.{IsOf, convert}

char_fits : (z : ℤ) → FitsSigned w8 z → IsOf Char z
char_fits z f = (omega (arith, ints), omega (arith, ints))

int_fits : (z : ℤ) → FitsSigned w32 z → IsOf Int z
int_fits z f = (omega (arith, ints), omega (arith, ints))

unsigned_fits : (z : ℤ) → IsOf Unsigned (convert Unsigned z)
unsigned_fits (pos a) = (omega (arith, ints), omega (arith, ints))
unsigned_fits (negsuc a) = (omega (arith, ints), omega (arith, ints))

pub converted : (k : IntKind) (z : ℤ) → IsOf k (convert k z)
unfolding int_wrap
converted Char z = char_fits (convert Char z) (SFits-int_wrap w8 z)
converted Int z = int_fits (convert Int z) (SFits-int_wrap w32 z)
converted Unsigned z = unsigned_fits z
