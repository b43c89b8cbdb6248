use Rattle.std.proofs.Common.{arith}
use Rattle.std.proofs.lemmas.List.{get_or_read}
use Rattle.dual_walk.proofs.SetBits.{set_same, set_other}
use Rattle.dual_walk.proofs.pair_set.set_bit.Goals as goal

pub returns-clause-same : goal.returns-clause-same
returns-clause-same c =
    let read = get_or_read c.args.words.now.items _ _ (omega (arith, c.requires)) c.index-word.ensures 0 in
    rw read (set_same c.args.words.now.items c.args.place c.requires)

pub returns-clause-other : goal.returns-clause-other
returns-clause-other c =
    let read = get_or_read c.args.words.now.items _ _ (omega (arith, c.requires)) c.index-word.ensures 0 in
    rw read (set_other c.args.words.now.items c.args.place c.requires)
