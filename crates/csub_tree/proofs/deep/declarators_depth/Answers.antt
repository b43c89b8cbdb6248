use Rattle.std.proofs.Common.{arith}
use Rattle.csub_tree.specs.Declarations.{declarator_tree}
use Rattle.csub_tree.specs.Depth.{declarator_depth}
use Rattle.csub_tree.proofs.Depths.{most_at, most_take}
use Rattle.csub_tree.proofs.deep.declarators_depth.Goals as goal

pub declarator_depth-requires : goal.declarator_depth-requires
declarator_depth-requires c = omega (arith, c.requires, most_at declarator_depth declarator_tree c.args.vars.now c.loop-var.var-index c.var-item.result c.loop-var-test.true c.var-item.is)

pub loop-var-preserved : goal.loop-var-preserved
loop-var-preserved c =
    let step = most_take declarator_depth declarator_tree c.args.vars.now c.loop-var.var-index c.var-item.result c.loop-var-test.true c.var-item.is in
    omega (arith, step, c.max-deep.ensures, c.declarator_depth.ensures, c.loop-var.invariant)
