use Rattle.std.proofs.Common.{arith}
use Rattle.std.proofs.lemmas.Bool.{false≢true}
use Rattle.dual_walk.proofs.PairLemmas.{pair_row, pair_column}
use Rattle.dual_walk.proofs.walking.Walk.has.Goals as goal

pub returns-then-old-self : goal.returns-then-old-self
returns-then-old-self c =
    let pairs = c.args.self.now.pairs in
    (λ t. absurd (false≢true t), λ h. let row = pair_row pairs.facts.items pairs.ends.items c.args.old c.args.new pairs.before h in let long = pairs.long in let out = c.if-old-self.true in absurd (omega (arith, row, long, out)))

pub returns-then-new-self : goal.returns-then-new-self
returns-then-new-self c =
    let pairs = c.args.self.now.pairs in
    (λ t. absurd (false≢true t), λ h. let column = pair_column pairs.facts.items pairs.held pairs.marked c.args.old c.args.new h in let out = c.if-new-self.true in absurd (omega (arith, column, out)))
