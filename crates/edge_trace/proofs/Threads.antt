-- Workers may share rows and hand them on.
use denote.Param.Send.{IsSend, IsSync, sendable}
use Rattle.std.proofs.Crossing.{crosses}
use Rattle.edge_trace.specs.contracts.row.EdgeRow as EdgeRow

pub EdgeRow-send : IsSend EdgeRow.the_row
EdgeRow-send = search (crosses, sendable) depth 60

pub EdgeRow-sync : IsSync EdgeRow.the_row
EdgeRow-sync = search (crosses, sendable) depth 60
