use Rattle.std.proofs.Common.{◌≡◌, map}
use Rattle.std.specs.List.{range_with_len}
use Rattle.edge_trace.specs.Rows.{byte_of}
use Rattle.test_history.proofs.bits.bytes_of_row.Given as goal

abbrev pub invariant-loop-at : goal.invariant-loop-at
invariant-loop-at l = l.bytes.items ≡ map (byte_of l.row) (range_with_len 0 l.at)
