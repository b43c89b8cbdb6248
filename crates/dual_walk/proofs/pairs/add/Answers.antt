use Rattle.std.proofs.Common.{◌≡◌, ◌+◌, ◌<◌, ◌≤◌, get_or, length, set, Some, sym, ap, ◌∙◌, subst, arith}
use Rattle.std.specs.Prelude.{slice_get}
use Rattle.std.proofs.Math.ListN.{length-set}
use Rattle.dual_walk.specs.Held.{HasPair}
use Rattle.dual_walk.proofs.PairLemmas.{Marks, below_more, before_more, marks_more, has_last}
use Rattle.dual_walk.proofs.pairs.add.Goals as goal

pub invariant_of-pairs-2-clause-long : goal.invariant_of-pairs-2-clause-long
invariant_of-pairs-2-clause-long c = length-set c.args.pairs.now.ends.items c.args.fact.old (c.len-place.result + 1) ∙ c.args.pairs.now.long ∙ sym c.add.ensures.height

pub invariant_of-pairs-2-clause-below : goal.invariant_of-pairs-2-clause-below
invariant_of-pairs-2-clause-below c n =
    let pairs = c.args.pairs.now in
    let place : c.len-place.result ≡ length pairs.facts.items = omega arith in
    let long : c.args.fact.old < length pairs.ends.items = omega arith in
    subst (λ l. get_or (set pairs.ends.items c.args.fact.old (c.len-place.result + 1)) n 0 ≤ length l) (sym c.in_ok-push.ensures.items)
    (below_more pairs.facts.items pairs.ends.items (set pairs.ends.items c.args.fact.old (c.len-place.result + 1)) c.args.fact long (ap (λ m. set pairs.ends.items c.args.fact.old (m + 1)) place) pairs.below pairs.before n)

pub invariant_of-pairs-2-clause-before : goal.invariant_of-pairs-2-clause-before
invariant_of-pairs-2-clause-before c i d e =
    let pairs = c.args.pairs.now in
    let place : c.len-place.result ≡ length pairs.facts.items = omega arith in
    let long : c.args.fact.old < length pairs.ends.items = omega arith in
    before_more pairs.facts.items pairs.ends.items (set pairs.ends.items c.args.fact.old (c.len-place.result + 1)) c.args.fact long (ap (λ m. set pairs.ends.items c.args.fact.old (m + 1)) place) pairs.below pairs.before i d
    (subst (λ l. slice_get l i ≡ Some d) c.in_ok-push.ensures.items e)

pub invariant_of-pairs-2-clause-marked : goal.invariant_of-pairs-2-clause-marked
invariant_of-pairs-2-clause-marked c = subst (λ l. Marks l c.add.new.self) (sym c.in_ok-push.ensures.items) (marks_more c.args.pairs.now.facts.items c.args.fact c.args.pairs.now.held c.add.new.self c.args.pairs.now.marked c.add.ensures.pair)

pub returns-clause-held : goal.returns-clause-held
returns-clause-held c = subst (λ l. HasPair l c.args.fact.old c.args.fact.new) (sym c.in_ok-push.ensures.items) (has_last c.args.pairs.now.facts.items c.args.fact)
