-- The pieces of a format (C11 7.21.6.1).
use Rattle.std.specs.Prelude.{ℕ, List, [], ◌∷◌, Option, Some, None, ◌==◌, if◌then◌else◌}
use Rattle.csub_tree.specs.Expressions.{Exprs, NoExprs, MoreExprs}
use Rattle.csub_semantics.specs.declared.expression.Piece.{Piece}
use Rattle.csub_semantics.specs.declared.expression.Piece.TheVariants.{Byte, Signed, Plain, Letter}
use Rattle.csub_rules.specs.Formats.{Literal, literal_of}

-- `%d`, `%u` and `%c`, by their last byte; any other conversion, as `%%` is, writes that byte (C11 7.21.6.1p8)
abbrev pub conversion_piece : ℕ → Piece
conversion_piece b = if b == 100 then Signed else (if b == 117 then Plain else (if b == 99 then Letter else Byte b))

-- a format ends before its first byte 0 (C11 7.1.1p1)
abbrev mutual
  pub pieces : List ℕ → List Piece
  pieces [] = []
  pieces (b ∷ rest) = if b == 0 then [] else (if b == 37 then conversion_pieces rest else Byte b ∷ pieces rest)

  pub conversion_pieces : List ℕ → List Piece
  conversion_pieces [] = []
  conversion_pieces (b ∷ rest) = conversion_piece b ∷ pieces rest

abbrev pub literal_pieces : Option Literal → List Piece
literal_pieces None = []
literal_pieces (Some l) = pieces l.bytes

-- the format of a `printf` is its first argument
abbrev pub format_of : Exprs → List Piece
format_of NoExprs = []
format_of (MoreExprs e rest) = literal_pieces (literal_of e)
