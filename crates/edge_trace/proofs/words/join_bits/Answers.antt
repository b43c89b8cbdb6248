use Rattle.std.proofs.Common.{arith}
use Rattle.edge_trace.proofs.CommonLemmas.{either_bit}
use Rattle.edge_trace.proofs.words.join_bits.Goals as goal

pub returns-clause-either : goal.returns-clause-either
returns-clause-either c =
    either_bit c.args.words.now.items c.args.others.now c.loop-at.words.items c.requires c.loop-at.invariant.long (λ k under. c.loop-at.invariant.joined k (omega arith))
