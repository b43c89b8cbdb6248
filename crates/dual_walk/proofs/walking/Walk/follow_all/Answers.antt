use Rattle.std.proofs.Common.{◌<◌, length, refl, arith}
use Rattle.dual_walk.specs.Rest.{facts_of}
use Rattle.dual_walk.proofs.LawsFacts.{extends_none, extends_more}
use Rattle.dual_walk.proofs.Resting.{asked_few, next_asks, asks_few, followed}
use Rattle.dual_walk.proofs.walking.Walk.follow_all.Goals as goal

pub follow-requires-clause-room : goal.follow-requires-clause-room
follow-requires-clause-room g c d stands =
    let under_way = c.loop-self.invariant.under_way in
    let within : c.loop-self.self.next < length (facts_of c.loop-self.self) = let test = c.loop-self-test.true in omega (arith, test) in
    let all = next_asks c.args.both.now.old.now c.args.both.now.new.now c.loop-self.self under_way within d stands in
    let few = under_way.few in
    omega (arith, all, few)

pub returns-in_err-follow-clause-few : goal.returns-in_err-follow-clause-few
returns-in_err-follow-clause-few g c = asks_few c.args.both.now.old.now c.args.both.now.new.now c.loop-self.self c.loop-self.invariant.under_way (let test = c.loop-self-test.true in omega (arith, test)) c.follow.new.asked c.follow.ensures.cost

pub loop-self-preserved : goal.loop-self-preserved
loop-self-preserved g c = record {
  under_way = followed c.args.both.now.old.now c.args.both.now.new.now c.loop-self.self c.loop-self.invariant.under_way (let test = c.loop-self-test.true in omega (arith, test)) c.follow.new.pairs c.follow.new.waiting c.follow.new.asked
      c.follow.ensures.moment c.follow.ensures.grows c.in_ok-follow.ensures.waiting c.in_ok-follow.ensures.done c.in_ok-follow.ensures.left;
  grows = extends_more c.loop-self.invariant.grows c.follow.ensures.grows;
  counted = let before = c.loop-self.invariant.counted in let one = c.follow.ensures.counted in omega (arith, before, one);
}

pub returns-clause-few : goal.returns-clause-few
returns-clause-few g c = asked_few c.args.both.now.old.now c.args.both.now.new.now c.loop-self.self c.loop-self.invariant.under_way

pub loop-self-init : goal.loop-self-init
loop-self-init g c = record { under_way = c.requires.under_way; grows = extends_none; counted = refl }

pub follow-requires-clause-at : goal.follow-requires-clause-at
follow-requires-clause-at g c = let test = c.loop-self-test.true in omega (arith, test)

pub returns-in_err-follow-clause-grows : goal.returns-in_err-follow-clause-grows
returns-in_err-follow-clause-grows g c = extends_more c.loop-self.invariant.grows c.follow.ensures.grows

pub returns-in_err-follow-clause-counted : goal.returns-in_err-follow-clause-counted
returns-in_err-follow-clause-counted g c =
    let before = c.loop-self.invariant.counted in
    let one = c.follow.ensures.counted in
    omega (arith, before, one)

pub returns-clause-rests : goal.returns-clause-rests
returns-clause-rests g c =
    let under_way = c.loop-self.invariant.under_way in
    let upto = under_way.upto in
    let test = c.loop-self-test.false in
    record { under_way = under_way; all = omega (arith, upto, test) }
