use Rattle.std.proofs.Common.{arith}
use Rattle.csub_tree.specs.Declarations.{param_tree}
use Rattle.csub_tree.specs.Depth.{param_depth}
use Rattle.csub_tree.proofs.Depths.{most_at, most_take}
use Rattle.csub_tree.proofs.deep.params_depth.Goals as goal

pub if_there_depth-requires : goal.if_there_depth-requires
if_there_depth-requires c = omega (arith, c.requires, most_at param_depth param_tree c.args.params.now c.loop-param.param-index c.param-item.result c.loop-param-test.true c.param-item.is)

pub loop-param-preserved : goal.loop-param-preserved
loop-param-preserved c =
    let step = most_take param_depth param_tree c.args.params.now c.loop-param.param-index c.param-item.result c.loop-param-test.true c.param-item.is in
    omega (arith, step, c.max-deep.ensures, c.if_there_depth.ensures, c.loop-param.invariant)
