use Rattle.std.proofs.Common.{◌≡◌, take}
use Rattle.csub_semantics.specs.Formats.{conversion_count}
use Rattle.csub_decisions.proofs.formats.count_conversions.Given as goal

abbrev pub invariant-loop-piece : goal.invariant-loop-piece
invariant-loop-piece l = l.count ≡ conversion_count (take l.piece-index l.pieces)
