use Rattle.std.proofs.Common.{◌≡◌, ◌++◌, drop}
use Rattle.csub_resolution.specs.Printed.{pieces}
use Rattle.csub_lower.specs.Formats.{pieces_behind}
use Rattle.csub_lower.proofs.format.pieces.Given as goal

abbrev pub invariant-loop-byte : goal.invariant-loop-byte
invariant-loop-byte l = l.read.items ++ pieces_behind l.reading (drop l.byte-index l.bytes) ≡ pieces l.bytes
