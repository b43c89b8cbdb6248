-- Bytes as one word of a line.
use Rattle.std.specs.Prelude.{ℕ, List, [], ◌∷◌, codes}
use Rattle.hex.specs.Hex.{encode_lower}

-- `-` for no bytes, and else two lower-case hexadecimal digits for each byte
abbrev pub bytes_or_dash : List ℕ → List ℕ
bytes_or_dash [] = codes "-"
bytes_or_dash (byte ∷ more) = encode_lower (byte ∷ more)
