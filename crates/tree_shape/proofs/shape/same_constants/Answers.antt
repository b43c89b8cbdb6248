use Rattle.std.proofs.Common.{arith, ◌<◌, length}
use Rattle.csub_tree.specs.Units.{constant_tree}
use Rattle.tree_shape.specs.Shape.{constant_shape}
use Rattle.tree_shape.proofs.Shapes.{shape_at}
use Rattle.tree_shape.proofs.shape.same_constants.Goals as goal

pub returns-then-not-same_constant : goal.returns-then-not-same_constant
returns-then-not-same_constant c =
    let below : c.loop-i.i < length c.args.b.now = omega arith in
    (λ h. cc, λ h. c.if-not-same_constant.ensures.1 (shape_at constant_shape constant_tree c.args.a.now c.args.b.now c.loop-i.i c.index-a-i.result c.index-b-i.result c.loop-i-test.true below h c.index-a-i.is c.index-b-i.is))
