use Rattle.std.proofs.Common.{◌∙◌, sym, ap, length}
use Rattle.edge_trace.proofs.BitLemmas.{same_length, kept-join, row-join, length-row_of}
use Rattle.edge_trace.proofs.row.EdgeRow.join.Goals as goal

pub join_bits-requires : goal.join_bits-requires
join_bits-requires c =
    let s = c.self.inside in
    let o = c.other.inside in
    same_length s.edges o.edges s.words.items o.words.items c.args.self.now c.args.other.now c.self.view_is c.other.view_is c.self.invariant c.other.invariant c.requires ∙ sym (ap length c.deref.ensures.value)

pub invariant_of-self : goal.invariant_of-self
invariant_of-self c =
    let s = c.self.inside in
    let o = c.other.inside in
    kept-join s.edges o.edges s.words.items o.words.items c.args.self.now c.args.other.now c.self.view_is c.other.view_is c.self.invariant c.other.invariant c.requires c.join_bits.new.words.items (rw c.deref.ensures.value at c.join_bits.ensures.either) c.join_bits.ensures.len

pub returns-clause-value : goal.returns-clause-value
returns-clause-value c =
    let s = c.self.inside in
    let o = c.other.inside in
    row-join s.edges o.edges s.words.items o.words.items c.args.self.now c.args.other.now c.self.view_is c.other.view_is c.self.invariant c.other.invariant c.requires c.join_bits.new.words.items (rw c.deref.ensures.value at c.join_bits.ensures.either) c.join_bits.ensures.len

pub returns-clause-edges : goal.returns-clause-edges
returns-clause-edges c =
    let s = c.self.inside in
    length-row_of s.edges c.join_bits.new.words.items ∙ sym (length-row_of s.edges s.words.items) ∙ ap length c.self.view_is
