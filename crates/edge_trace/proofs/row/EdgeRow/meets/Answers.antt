use Rattle.std.proofs.Common.{◌∙◌, sym, ap, length}
use Rattle.edge_trace.proofs.BitLemmas.{same_length, least_common, none_common}
use Rattle.edge_trace.proofs.row.EdgeRow.meets.Goals as goal

pub lowest_common_bit-requires-clause-same : goal.lowest_common_bit-requires-clause-same
lowest_common_bit-requires-clause-same c =
    let s = c.self.inside in
    let o = c.other.inside in
    ap length c.deref.ensures.value ∙ same_length s.edges o.edges s.words.items o.words.items c.args.self.now c.args.other.now c.self.view_is c.other.view_is c.self.invariant c.other.invariant c.requires ∙ sym (ap length c.deref-2.ensures.value)

pub returns-clause-some : goal.returns-clause-some
returns-clause-some c =
    let s = c.self.inside in
    let o = c.other.inside in
    least_common s.edges o.edges s.words.items o.words.items c.args.self.now c.args.other.now c.self.view_is c.other.view_is c.self.invariant c.other.invariant c.requires _ (rw (c.deref.ensures.value, c.deref-2.ensures.value) at c.lowest_common_bit.ensures.some)

pub returns-clause-none : goal.returns-clause-none
returns-clause-none c =
    let s = c.self.inside in
    let o = c.other.inside in
    none_common s.edges o.edges s.words.items o.words.items c.args.self.now c.args.other.now c.self.view_is c.other.view_is c.self.invariant c.other.invariant c.requires _ (rw (c.deref.ensures.value, c.deref-2.ensures.value) at c.lowest_common_bit.ensures.none)
