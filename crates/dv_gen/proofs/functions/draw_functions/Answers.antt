use Rattle.dv_gen.proofs.DrawLemmas.{functions_of-more, three_more}
use Rattle.dv_gen.proofs.functions.draw_functions.Goals as goal

pub loop-preserved : goal.loop-preserved
loop-preserved c = record {
  functions = functions_of-more c.args.draws.now.state c.loop.counter _ _ _ _ c.loop.invariant.functions c.loop.invariant.state c.draw_function.ensures.numbers c.in_ok-push.ensures.items;
  state = three_more c.args.draws.now.state c.loop.counter _ _ c.loop.invariant.state c.draw_function.ensures.state;
}
