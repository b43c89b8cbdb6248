use Rattle.std.proofs.Common.{◌∙◌, ap, sym, length}
use Rattle.edge_trace.proofs.BitLemmas.{same_length}
use Rattle.edge_trace.proofs.CountLemmas.{beyond_is, beyond_fits}
use Rattle.edge_trace.proofs.row.EdgeRow.beyond.Goals as goal

pub count_bits_beyond-requires-clause-same : goal.count_bits_beyond-requires-clause-same
count_bits_beyond-requires-clause-same c =
    let s = c.self.inside in
    let o = c.seen.inside in
    ap length c.deref.ensures.value ∙ same_length s.edges o.edges s.words.items o.words.items c.args.self.now c.args.seen.now c.self.view_is c.seen.view_is c.self.invariant c.seen.invariant c.requires ∙ sym (ap length c.deref-2.ensures.value)

pub count_bits_beyond-requires-clause-fits : goal.count_bits_beyond-requires-clause-fits
count_bits_beyond-requires-clause-fits c =
    let s = c.self.inside in
    let o = c.seen.inside in
    rw (c.deref.ensures.value, c.deref-2.ensures.value) (beyond_fits s.edges s.words.items c.args.self.now c.self.view_is c.self.invariant o.edges o.words.items c.args.seen.now c.seen.view_is c.seen.invariant c.requires)

pub returns : goal.returns
returns c =
    let s = c.self.inside in
    let o = c.seen.inside in
    rw (c.count_bits_beyond.ensures, c.deref.ensures.value, c.deref-2.ensures.value) (beyond_is s.edges s.words.items c.args.self.now c.self.view_is c.self.invariant o.edges o.words.items c.args.seen.now c.seen.view_is c.seen.invariant c.requires)
