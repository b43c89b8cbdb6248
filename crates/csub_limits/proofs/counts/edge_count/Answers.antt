use Rattle.csub_limits.proofs.Counting.{length-edges_of, none_counted, counted}
use Rattle.csub_limits.proofs.counts.edge_count.Goals as goal

pub returns-in_err-room : goal.returns-in_err-room
returns-in_err-room c = rw (length-edges_of c.args.functions.now) (none_counted _ _ _ c.from_residual.ensures c.in_err-room.ensures)

pub returns : goal.returns
returns c = rw (length-edges_of c.args.functions.now) (counted _ _ _ c.in_ok-room.ensures)
