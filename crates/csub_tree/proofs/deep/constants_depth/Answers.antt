use Rattle.std.proofs.Common.{arith}
use Rattle.csub_tree.specs.Units.{constant_tree}
use Rattle.csub_tree.specs.Depth.{constant_depth}
use Rattle.csub_tree.proofs.Depths.{most_at, most_take}
use Rattle.csub_tree.proofs.deep.constants_depth.Goals as goal

pub if_there_depth-requires : goal.if_there_depth-requires
if_there_depth-requires c = omega (arith, c.requires, most_at constant_depth constant_tree c.args.constants.now c.loop-constant.constant-index c.constant-item.result c.loop-constant-test.true c.constant-item.is)

pub loop-constant-preserved : goal.loop-constant-preserved
loop-constant-preserved c =
    let step = most_take constant_depth constant_tree c.args.constants.now c.loop-constant.constant-index c.constant-item.result c.loop-constant-test.true c.constant-item.is in
    omega (arith, step, c.max-deep.ensures, c.if_there_depth.ensures, c.loop-constant.invariant)
