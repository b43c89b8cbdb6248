use Rattle.std.proofs.Common.{map, take, subst}
use Rattle.std.proofs.lemmas.Bool.{MatchBool-at_true, MatchBool-at_false}
use Rattle.std.proofs.lemmas.List.{take_all}
use Rattle.test_order.specs.Orders.{IsNotBehind}
use Rattle.test_order.specs.Counts.{counted, IsFirstOfTests}
use Rattle.test_order.proofs.FirstLemmas.{first_of_one, first_keeps, first_takes, tests_more}
use Rattle.test_order.proofs.counting.first_of_tests.Goals as goal
use Rattle.test_order.proofs.counting.first_of_tests.Goals.{then-is_behind, else-is_behind}

pub loop-i-init : goal.loop-i-init
loop-i-init g c =
    rw (tests_more (counted c.args.entries.now c.args.covered.now) c.args.tests.now 0 c.count_gain-first.result c.requires.some c.count_gain-first.ensures) (first_of_one c.count_gain-first.result)

pub loop-i-preserved : goal.loop-i-preserved
loop-i-preserved g c =
    let more = tests_more (counted c.args.entries.now c.args.covered.now) c.args.tests.now c.loop-i.i c.count_gain-next.result c.loop-i-test.true c.count_gain-next.ensures in
    elim c.if-is_behind.branch [
      | then-is_behind w ↦ rw (more, w.first-is) (first_takes (map (counted c.args.entries.now c.args.covered.now) (take c.loop-i.i c.args.tests.now)) c.loop-i.first c.count_gain-next.result c.loop-i.invariant (MatchBool-at_true (IsNotBehind c.count_gain-next.result c.loop-i.first.gain c.loop-i.first.at) (IsNotBehind c.loop-i.first c.count_gain-next.result.gain c.count_gain-next.result.at) w.if-is_behind.true c.is_behind.ensures))
      | else-is_behind w ↦ rw (more, w.first-is) (first_keeps (map (counted c.args.entries.now c.args.covered.now) (take c.loop-i.i c.args.tests.now)) c.loop-i.first c.count_gain-next.result c.loop-i.invariant (MatchBool-at_false (IsNotBehind c.count_gain-next.result c.loop-i.first.gain c.loop-i.first.at) (IsNotBehind c.loop-i.first c.count_gain-next.result.gain c.count_gain-next.result.at) w.if-is_behind.false c.is_behind.ensures))
    ]

pub returns : goal.returns
returns g c = subst (λ tests. IsFirstOfTests c.args.entries.now c.args.covered.now tests c.loop-i.first) (take_all c.loop-i.i c.args.tests.now c.loop-i-test.false) c.loop-i.invariant
