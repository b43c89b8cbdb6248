use Rattle.std.proofs.Common.{arith}
use Rattle.std.proofs.lemmas.Nat.{mul-add-lt}
use Rattle.dual_walk.proofs.SetBits.{one_more}
use Rattle.dual_walk.proofs.pair_set.PairSet.add.Goals as goal

pub overflow_mul-place : goal.overflow_mul-place
overflow_mul-place c = let s = c.args.self.now in omega (arith, mul-add-lt c.args.row s.width c.args.column s.height (omega arith) (omega arith), s.small)

pub overflow_add-place : goal.overflow_add-place
overflow_add-place c = let s = c.args.self.now in omega (arith, mul-add-lt c.args.row s.width c.args.column s.height (omega arith) (omega arith), s.small)

pub returns-clause-pair : goal.returns-clause-pair
returns-clause-pair c = one_more c.args.self.now.width c.args.self.now.words.items c.set_bit.new.words.items c.args.row c.args.column c.requires.column c.set_bit.ensures.same c.set_bit.ensures.other
