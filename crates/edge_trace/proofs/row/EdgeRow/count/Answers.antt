use Rattle.edge_trace.proofs.CountLemmas.{count_is, count_fits}
use Rattle.edge_trace.proofs.row.EdgeRow.count.Goals as goal

pub count_bits-requires : goal.count_bits-requires
count_bits-requires c =
    let s = c.self.inside in
    rw c.deref.ensures.value (count_fits s.edges s.words.items c.args.self.now c.self.view_is c.self.invariant)

pub returns : goal.returns
returns c =
    let s = c.self.inside in
    rw (c.count_bits.ensures, c.deref.ensures.value) (count_is s.edges s.words.items c.args.self.now c.self.view_is c.self.invariant)
