use Rattle.std.proofs.Common.{◌≡◌, ◌≤◌, take}
use Rattle.csub_lex.specs.Place.{tail_len}
use Rattle.csub_lex.proofs.place.tail_len.Given as goal

abbrev pub invariant-loop-byte : goal.invariant-loop-byte
invariant-loop-byte l = (l.column ≤ l.byte-index) × (l.column ≡ tail_len (take l.byte-index l.bytes))
