use Rattle.std.proofs.Common.{◌≡◌, ◌<◌, ◌≤◌, get_or, length, sym, subst, arith, true≢false}
use Rattle.dual_walk.proofs.PairLemmas.{end_read, none_before}
use Rattle.dual_walk.proofs.pairs.place_of.Goals as goal

pub loop-at-init : goal.loop-at-init
loop-at-init c =
    let pairs = c.args.pairs.now in
    let ends = pairs.ends.items in
    let within : c.args.old < length ends = omega (arith, pairs.long, c.requires.old) in
    let is : get_or ends c.args.old 0 ≡ c.index-at.result.now = end_read ends c.args.old c.index-at.result.now within c.index-at.ensures in
    record {
      upto = subst (λ n. n ≤ length pairs.facts.items) is (pairs.below c.args.old);
      none = λ k d from stands is_old is_new.
          let before = subst (λ n. k < get_or ends n 0) is_old (pairs.before k d stands) in
          absurd (omega (arith, from, before, is));
    }

pub loop-at-preserved : goal.loop-at-preserved
loop-at-preserved c =
    let upto = c.loop-at.invariant.upto in
    record {
      upto = omega (arith, upto);
      none = none_before c.args.pairs.now.facts.items c.loop-at.at c.index.result.now c.args.old c.args.new c.loop-at-test.true upto c.index.ensures
          (λ both. true≢false (sym (c.if-is_of.ensures.1 both))) c.loop-at.invariant.none;
    }
