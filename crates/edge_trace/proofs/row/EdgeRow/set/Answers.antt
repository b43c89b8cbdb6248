use Rattle.edge_trace.proofs.BitLemmas.{in_words, kept-set, row-set}
use Rattle.edge_trace.proofs.row.EdgeRow.set.Goals as goal

pub set_bit-requires : goal.set_bit-requires
set_bit-requires c =
    let s = c.self.inside in
    in_words s.edges s.words.items c.args.self.now c.self.view_is c.self.invariant c.args.edge c.requires

pub invariant_of-self : goal.invariant_of-self
invariant_of-self c =
    let s = c.self.inside in
    kept-set s.edges s.words.items c.set_bit.new.words.items c.args.self.now c.args.edge c.self.view_is c.self.invariant c.requires c.set_bit.ensures.others c.set_bit.ensures.len

pub returns : goal.returns
returns c =
    let s = c.self.inside in
    row-set s.edges s.words.items c.set_bit.new.words.items c.args.self.now c.args.edge c.self.view_is c.self.invariant c.requires c.set_bit.ensures.others c.set_bit.ensures.same
