use Rattle.std.proofs.Common.{sym, arith}
use Rattle.std.proofs.lemmas.List.FromFn.{map-range_with_len_more}
use Rattle.edge_trace.specs.Rows.{byte_of}
use Rattle.test_history.proofs.bits.bytes_of_row.Goals as goal

pub loop-at-preserved : goal.loop-at-preserved
loop-at-preserved c =
    rw (c.in_ok-push.ensures.items, c.byte.ensures.value, c.loop-at.invariant) (sym (map-range_with_len_more (byte_of c.args.row.now) 0 c.loop-at.at c.loop-at.at (omega arith)))
