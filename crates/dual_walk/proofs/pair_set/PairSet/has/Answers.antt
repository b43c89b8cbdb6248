use Rattle.std.proofs.Common.{arith}
use Rattle.std.proofs.lemmas.Nat.{mul-add-lt}
use Rattle.dual_walk.proofs.pair_set.PairSet.has.Goals as goal

pub overflow_mul-row : goal.overflow_mul-row
overflow_mul-row c = let s = c.args.self.now in omega (arith, mul-add-lt c.args.row s.width c.args.column s.height (omega arith) (omega arith), s.small)

pub overflow_add-row : goal.overflow_add-row
overflow_add-row c = let s = c.args.self.now in omega (arith, mul-add-lt c.args.row s.width c.args.column s.height (omega arith) (omega arith), s.small)
