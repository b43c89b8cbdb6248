use Rattle.dual_walk.proofs.PairLemmas.{marks_held}
use Rattle.dual_walk.proofs.pairs.holds.Goals as goal

pub returns : goal.returns
returns c =
    let marked = marks_held c.args.pairs.now.facts.items c.args.pairs.now.held c.args.pairs.now.marked c.args.old c.args.new in
    (λ t. marked.0 (c.has.ensures.0 t), λ h. c.has.ensures.1 (marked.1 h))
