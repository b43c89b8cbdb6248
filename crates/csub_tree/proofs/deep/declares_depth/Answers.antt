use Rattle.std.proofs.Common.{arith}
use Rattle.csub_tree.specs.Declarations.{declare_tree}
use Rattle.csub_tree.specs.Depth.{declare_depth}
use Rattle.csub_tree.proofs.Depths.{most_at, most_take}
use Rattle.csub_tree.proofs.deep.declares_depth.Goals as goal

pub declare_depth-requires : goal.declare_depth-requires
declare_depth-requires c = omega (arith, c.requires, most_at declare_depth declare_tree c.args.declares.now c.loop-declare.declare-index c.declare-item.result c.loop-declare-test.true c.declare-item.is)

pub loop-declare-preserved : goal.loop-declare-preserved
loop-declare-preserved c =
    let step = most_take declare_depth declare_tree c.args.declares.now c.loop-declare.declare-index c.declare-item.result c.loop-declare-test.true c.declare-item.is in
    omega (arith, step, c.max-deep.ensures, c.declare_depth.ensures, c.loop-declare.invariant)
