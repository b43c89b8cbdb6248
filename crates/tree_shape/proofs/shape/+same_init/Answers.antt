use Rattle.std.proofs.Common.{arith, ◌<◌, length}
use Rattle.csub_tree.specs.Declarations.{init_tree}
use Rattle.tree_shape.specs.Shape.{init_shape}
use Rattle.tree_shape.proofs.Shapes.{shape_at, listed_same}
use Rattle.tree_shape.proofs.shape.+same_init.Goals as goal

pub same_inits-returns-then-not-same_init : goal.same_inits-returns-then-not-same_init
same_inits-returns-then-not-same_init t c =
    let below : c.loop-i.i < length c.args.b.now = omega arith in
    (λ h. cc, λ h. c.if-not-same_init.ensures.1 (shape_at init_shape init_tree c.args.a.now c.args.b.now c.loop-i.i c.index-a-i.result c.index-b-i.result c.loop-i-test.true below h c.index-a-i.is c.index-b-i.is))

pub same_init-returns-in-List-List : goal.same_init-returns-in-List-List
same_init-returns-in-List-List t c =
    let list = rw (c.deref.ensures.value, c.deref-in-List-List.ensures.value) at c.same_inits.ensures in
    rw (c.in-List-List.is-0, c.in-List-List.is-1) (listed_same _ c.in-List-List.a0 c.in-List-List.b0 c.in-List-List.field-1-0 c.in-List-List.field-1-1 list)
