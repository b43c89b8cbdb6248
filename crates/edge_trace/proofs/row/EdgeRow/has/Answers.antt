use Rattle.std.proofs.Common.{sym}
use Rattle.edge_trace.proofs.BitLemmas.{in_words, has-row_of}
use Rattle.edge_trace.proofs.row.EdgeRow.has.Goals as goal

pub has_bit-requires : goal.has_bit-requires
has_bit-requires c =
    let s = c.self.inside in
    rw c.deref.ensures.value (in_words s.edges s.words.items c.args.self.now c.self.view_is c.self.invariant c.args.edge c.requires)

pub returns : goal.returns
returns c =
    let s = c.self.inside in
    rw (c.has_bit.ensures, c.deref.ensures.value, ← c.self.view_is) (sym (has-row_of s.edges s.words.items c.self.invariant c.args.edge))
