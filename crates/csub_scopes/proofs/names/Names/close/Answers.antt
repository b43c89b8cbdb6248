use Rattle.std.proofs.Common.{arith, ◌∙◌}
use Rattle.csub_scopes.proofs.Stack.{drop_once}
use Rattle.csub_scopes.proofs.names.Names.close.Goals as goal

pub loop-self-preserved : goal.loop-self-preserved
loop-self-preserved c = drop_once c.loop-self.self c.forget.new.self c.args.mark (omega arith) c.forget.ensures ∙ c.loop-self.invariant
