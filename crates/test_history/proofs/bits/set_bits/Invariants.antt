use Rattle.std.proofs.Common.{length}
use Rattle.test_history.proofs.BitsLemmas.{IsSetTo}
use Rattle.test_history.proofs.bits.set_bits.Given as goal

abbrev pub invariant-loop-edge : goal.invariant-loop-edge
invariant-loop-edge l = IsSetTo l.bytes (length l.fn.row) l.edge l.row
