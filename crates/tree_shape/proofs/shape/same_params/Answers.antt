use Rattle.std.proofs.Common.{arith, ◌<◌, length}
use Rattle.csub_tree.specs.Declarations.{param_tree}
use Rattle.tree_shape.specs.Shape.{param_shape}
use Rattle.tree_shape.proofs.Shapes.{shape_at}
use Rattle.tree_shape.proofs.shape.same_params.Goals as goal

pub returns-then-not-same_param : goal.returns-then-not-same_param
returns-then-not-same_param c =
    let below : c.loop-i.i < length c.args.b.now = omega arith in
    (λ h. cc, λ h. c.if-not-same_param.ensures.1 (shape_at param_shape param_tree c.args.a.now c.args.b.now c.loop-i.i c.index-a-i.result c.index-b-i.result c.loop-i-test.true below h c.index-a-i.is c.index-b-i.is))
