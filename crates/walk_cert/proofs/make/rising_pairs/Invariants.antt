use Rattle.walk_cert.proofs.MadeLemmas.{Moment}
use Rattle.walk_cert.proofs.make.rising_pairs.Given as goal

abbrev pub invariant-loop-old : goal.invariant-loop-old
invariant-loop-old l = Moment l.old-items l.old-index l.pairs.items l.last
