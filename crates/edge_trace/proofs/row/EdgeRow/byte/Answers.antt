use Rattle.std.proofs.Common.{◌*◌, arith}
use Rattle.std.proofs.lemmas.List.{get_or_read}
use Rattle.edge_trace.proofs.BitLemmas.{in_words}
use Rattle.edge_trace.proofs.ByteLemmas.{byte_of_cut}
use Rattle.edge_trace.proofs.LawsOfBytes.{bit_tells}
use Rattle.edge_trace.proofs.row.EdgeRow.byte.Goals as goal

pub index-word-requires : goal.index-word-requires
index-word-requires c =
    let s = c.self.inside in
    omega (arith, in_words s.edges s.words.items c.args.self.now c.self.view_is c.self.invariant (8 * c.args.at) c.requires)

pub returns-clause-value : goal.returns-clause-value
returns-clause-value c =
    let s = c.self.inside in
    let within = in_words s.edges s.words.items c.args.self.now c.self.view_is c.self.invariant (8 * c.args.at) c.requires in
    let read = get_or_read s.words.items _ _ (omega (arith, within)) c.index-word.ensures 0 in
    byte_of_cut s.edges s.words.items c.args.self.now c.self.view_is c.self.invariant c.args.at _ read

pub returns-clause-bits : goal.returns-clause-bits
returns-clause-bits c =
    let s = c.self.inside in
    let within = in_words s.edges s.words.items c.args.self.now c.self.view_is c.self.invariant (8 * c.args.at) c.requires in
    let read = get_or_read s.words.items _ _ (omega (arith, within)) c.index-word.ensures 0 in
    rw (byte_of_cut s.edges s.words.items c.args.self.now c.self.view_is c.self.invariant c.args.at _ read) (bit_tells c.args.self.now c.args.at)
