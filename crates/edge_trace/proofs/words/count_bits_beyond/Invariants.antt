use Rattle.std.proofs.Common.{◌≡◌}
use Rattle.edge_trace.proofs.CountLemmas.{ones_beyond}
use Rattle.edge_trace.proofs.words.count_bits_beyond.Given as goal

abbrev pub invariant-loop-at : goal.invariant-loop-at
invariant-loop-at l = l.total ≡ ones_beyond l.at l.words l.others
