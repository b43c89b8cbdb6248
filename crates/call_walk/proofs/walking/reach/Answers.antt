use Rattle.std.proofs.Common.{◌≡◌, ◌<◌, ◌≤◌, length, ap, arith}
use Rattle.csub_semantics.specs.Points.{entry}
use Rattle.csub_semantics.specs.Flows.{start_name}
use Rattle.dual_walk.specs.Rest.{facts_of}
use Rattle.dual_walk.proofs.LawsFacts.{held_extends, extends_long}
use Rattle.dual_walk.proofs.LawsRest.{rest_few, rest_closed}
use Rattle.call_walk.proofs.Entering.{entered_more, all_held}
use Rattle.call_walk.proofs.walking.reach.Goals as goal

pub loop-at-preserved : goal.loop-at-preserved
loop-at-preserved g c = record {
  rests = c.in_ok-enter.ensures.rests;
  starts = λ P P' ok ok'. held_extends P P' c.enter.ensures.grows start_name entry entry (c.loop-at.invariant.starts P P' ok ok');
  entered = λ P P' ok ok'. entered_more P P' (facts_of c.loop-at.walk) (facts_of c.enter.new.walk) c.loop-at.at c.enter.ensures.grows within (c.loop-at.invariant.entered P P' ok ok')
      (λ d f h p p' stands at calls. c.in_ok-enter.ensures.entered P P' d f h p p' ok ok' stands at calls);
  upto = let l = extends_long c.enter.ensures.grows in let w = within in omega (arith, l, w);
  counted = let before = c.loop-at.invariant.counted in let one = c.enter.ensures.counted in omega (arith, before, one);
}
  where
    within : c.loop-at.at < length (facts_of c.loop-at.walk)
    within = let same : length c.pairs.result.now ≡ length (facts_of c.loop-at.walk) = ap length c.pairs.ensures in let test = c.loop-at-test.true in omega (arith, same, test)

pub returns-clause-all : goal.returns-clause-all
returns-clause-all g c P P' ok ok' =
    all_held P P' (facts_of c.loop-at.walk) c.loop-at.at long (c.loop-at.invariant.starts P P' ok ok') (c.loop-at.invariant.entered P P' ok ok') (rest_closed c.args.both.now.old.now c.args.both.now.new.now c.loop-at.walk c.loop-at.invariant.rests P P' ok ok')
  where
    long : length (facts_of c.loop-at.walk) ≤ c.loop-at.at
    long = let same : length c.pairs.result.now ≡ length (facts_of c.loop-at.walk) = ap length c.pairs.ensures in let test = c.loop-at-test.false in omega (arith, same, test)

pub returns-clause-few : goal.returns-clause-few
returns-clause-few g c = rest_few c.args.both.now.old.now c.args.both.now.new.now c.loop-at.walk c.loop-at.invariant.rests
