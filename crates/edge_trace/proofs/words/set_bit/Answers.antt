use Rattle.std.proofs.Common.{arith}
use Rattle.std.proofs.lemmas.List.{get_or_read}
use Rattle.edge_trace.proofs.BitLemmas.{set_same, set_others}
use Rattle.edge_trace.proofs.words.set_bit.Goals as goal

pub returns-clause-same : goal.returns-clause-same
returns-clause-same c =
    let read = get_or_read c.args.words.now.items _ _ (omega (arith, c.requires)) c.index-word.ensures 0 in
    rw read (set_same c.args.words.now.items c.args.place c.requires)

pub returns-clause-others : goal.returns-clause-others
returns-clause-others c =
    let read = get_or_read c.args.words.now.items _ _ (omega (arith, c.requires)) c.index-word.ensures 0 in
    rw read (set_others c.args.words.now.items c.args.place c.requires)
