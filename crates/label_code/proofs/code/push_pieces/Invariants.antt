use Rattle.std.proofs.Common.{◌≡◌, ◌++◌, drop}
use Rattle.std.specs.List.{flat_map}
use Rattle.label_code.specs.Codes.{piece_code, list_code}
use Rattle.label_code.proofs.code.push_pieces.Given as goal

-- what is written and the codes of what is left are the code
abbrev pub invariant-loop-piece : goal.invariant-loop-piece
invariant-loop-piece l = l.out.items ++ flat_map piece_code (drop l.piece-index l.pieces) ≡ l.fn.out.items ++ list_code piece_code l.pieces
