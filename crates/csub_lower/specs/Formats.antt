-- The pieces of what is left of a format.
use Rattle.std.specs.Prelude.{ℕ, List, []}
use Rattle.csub_semantics.specs.declared.expression.Piece.{Piece}
use Rattle.csub_resolution.specs.Printed.{pieces, conversion_pieces}
use Rattle.csub_lower.specs.declared.format.Reading.{Reading}
use Rattle.csub_lower.specs.declared.format.Reading.TheVariants.{Plain, Opened, Ended}

-- what is left has these pieces, by how far the format was read
abbrev pub pieces_behind : Reading → List ℕ → List Piece
pieces_behind Plain rest = pieces rest
pieces_behind Opened rest = conversion_pieces rest
pieces_behind Ended rest = []
