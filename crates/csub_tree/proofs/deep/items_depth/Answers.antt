use Rattle.std.proofs.Common.{arith}
use Rattle.csub_tree.specs.Units.{item_tree}
use Rattle.csub_tree.specs.Depth.{item_depth}
use Rattle.csub_tree.proofs.Depths.{most_at, most_take}
use Rattle.csub_tree.proofs.deep.items_depth.Goals as goal

pub item_depth-requires : goal.item_depth-requires
item_depth-requires c = omega (arith, c.requires, most_at item_depth item_tree c.args.items.now c.loop-item.item-index c.item-item.result c.loop-item-test.true c.item-item.is)

pub loop-item-preserved : goal.loop-item-preserved
loop-item-preserved c =
    let step = most_take item_depth item_tree c.args.items.now c.loop-item.item-index c.item-item.result c.loop-item-test.true c.item-item.is in
    omega (arith, step, c.max-deep.ensures, c.item_depth.ensures, c.loop-item.invariant)
