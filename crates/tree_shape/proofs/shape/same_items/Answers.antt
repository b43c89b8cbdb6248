use Rattle.std.proofs.Common.{arith, ◌<◌, length}
use Rattle.csub_tree.specs.Units.{item_tree}
use Rattle.tree_shape.specs.Shape.{item_shape}
use Rattle.tree_shape.proofs.Shapes.{shape_at}
use Rattle.tree_shape.proofs.shape.same_items.Goals as goal

pub returns-then-not-same_item : goal.returns-then-not-same_item
returns-then-not-same_item c =
    let below : c.loop-i.i < length c.args.b.now = omega arith in
    (λ h. cc, λ h. c.if-not-same_item.ensures.1 (shape_at item_shape item_tree c.args.a.now c.args.b.now c.loop-i.i c.index-a-i.result c.index-b-i.result c.loop-i-test.true below h c.index-a-i.is c.index-b-i.is))
