use Rattle.std.proofs.Common.{sym}
use Rattle.edge_trace.proofs.BitLemmas.{length-row_of}
use Rattle.edge_trace.proofs.row.EdgeRow.edges.Goals as goal

pub returns : goal.returns
returns c =
    let s = c.self.inside in rw (← c.self.view_is) (sym (length-row_of s.edges s.words.items))
