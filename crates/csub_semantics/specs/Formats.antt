-- What `printf` writes (C11 7.21.6.1).
use Rattle.std.specs.Prelude.{ℕ, ℤ, pos, List, [], ◌∷◌, ◌++◌, Bool, true, false, count_by}
use Rattle.std.specs.Fmt.{signed_decimal}
use Rattle.csub_types.specs.declared.kind.IntKind.TheVariants.{Int, Unsigned}
use Rattle.csub_types.specs.Kinds.{convert}
use Rattle.csub_semantics.specs.declared.expression.Piece.{Piece}
use Rattle.csub_semantics.specs.declared.expression.Piece.TheVariants.{Byte, Signed, Plain, Letter}
use Rattle.csub_semantics.specs.Memory.{low_byte}

-- `%d` writes an `int` and `%u` an `unsigned int` in decimal, and `%c` an unsigned byte (C11 7.21.6.1p8); every other byte
-- stands for itself; a number of more than 8 bits, which no format has, for its low 8 bits
abbrev pub shown : Piece → ℤ → List ℕ
shown (Byte b) v = low_byte (pos b) ∷ []
shown Signed v = signed_decimal (convert Int v)
shown Plain v = signed_decimal (convert Unsigned v)
shown Letter v = low_byte v ∷ []

-- the text of a format, whose conversions take the values in order, and a byte none; it ends where they run out, which no
-- valid program meets
abbrev pub text_of : List Piece → List ℤ → List ℕ
text_of [] vs = []
text_of (Byte b ∷ rest) vs = shown (Byte b) (pos 0) ++ text_of rest vs
text_of (Signed ∷ rest) [] = []
text_of (Signed ∷ rest) (v ∷ vs) = shown Signed v ++ text_of rest vs
text_of (Plain ∷ rest) [] = []
text_of (Plain ∷ rest) (v ∷ vs) = shown Plain v ++ text_of rest vs
text_of (Letter ∷ rest) [] = []
text_of (Letter ∷ rest) (v ∷ vs) = shown Letter v ++ text_of rest vs

-- how many conversions a format has, each of which takes a value
abbrev pub is_conversion : Piece → Bool
is_conversion (Byte b) = false
is_conversion Signed = true
is_conversion Plain = true
is_conversion Letter = true

abbrev pub conversion_count : List Piece → ℕ
conversion_count pieces = count_by is_conversion pieces
