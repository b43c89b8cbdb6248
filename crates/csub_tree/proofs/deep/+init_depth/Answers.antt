use Rattle.std.proofs.Common.{rules, arith, take, ◌+◌, ap}
use denote.Param.Weighed.{at_most}
use Rattle.csub_tree.proofs.declaration.Init.TheLaws.{the_size}
use Rattle.csub_tree.specs.Declarations.{init_tree}
use Rattle.csub_tree.specs.Depth.{init_depth}
use Rattle.csub_tree.proofs.Depths.{most_at, most_take, most_inits}
use Rattle.csub_tree.proofs.deep.+init_depth.Goals as goal

pub inits_depth-init_depth-requires : goal.inits_depth-init_depth-requires
inits_depth-init_depth-requires t c =
    let less = at_most the_size c.args.inits.now c.loop-init.init-index c.init-item.result c.loop-init-test.true in
    let same = ap the_size c.init-item.is in
    (search rules, omega (arith, c.requires, most_inits c.args.inits.now, most_at init_depth init_tree c.args.inits.now c.loop-init.init-index c.init-item.result c.loop-init-test.true c.init-item.is))

pub inits_depth-loop-init-preserved : goal.inits_depth-loop-init-preserved
inits_depth-loop-init-preserved t c =
    let step = most_take init_depth init_tree c.args.inits.now c.loop-init.init-index c.init-item.result c.loop-init-test.true c.init-item.is in
    omega (arith, step, most_inits (take (c.loop-init.init-index + 1) c.args.inits.now), most_inits (take c.loop-init.init-index c.args.inits.now), c.max-deep.ensures, c.init_depth.ensures, c.loop-init.invariant)
