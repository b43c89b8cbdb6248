use Rattle.dv_gen.proofs.DrawLemmas.{one_more}
use Rattle.dv_gen.proofs.TestLemmas.{test_pushed}
use Rattle.dv_gen.proofs.suite.draw_tests.Goals as goal

pub loop-number-preserved : goal.loop-number-preserved
loop-number-preserved c = record {
  tests = λ seed begins.
      test_pushed seed c.args.size c.loop-number.number c.args.draws.now.state c.loop-number.draws.state c.loop-number.tests.items c.push.new.self.items c.in_ok-draw_test.field-0
      begins c.loop-number.invariant.state c.in_ok-draw_test.ensures.test (c.loop-number.invariant.tests seed begins) c.in_ok-push.ensures.items;
  state = one_more c.args.draws.now.state c.loop-number.number _ _ c.loop-number.invariant.state c.in_ok-draw_test.ensures.state;
}
