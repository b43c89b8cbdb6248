use Rattle.std.proofs.Common.{arith, refl, ◌<◌, length}
use Rattle.csub_tree.specs.Expressions.{expr_tree}
use Rattle.tree_shape.specs.Shape.{expr_shape}
use Rattle.tree_shape.proofs.Shapes.{shape_at, call_same}
use Rattle.tree_shape.proofs.shape.+same_expr.Goals as goal

pub same_exprs-returns-then-not-same_expr : goal.same_exprs-returns-then-not-same_expr
same_exprs-returns-then-not-same_expr t c =
    let below : c.loop-i.i < length c.args.b.now = omega arith in
    (λ h. cc, λ h. c.if-not-same_expr.ensures.1 (shape_at expr_shape expr_tree c.args.a.now c.args.b.now c.loop-i.i c.index-a-i.result c.index-b-i.result c.loop-i-test.true below h c.index-a-i.is c.index-b-i.is))

pub same_kind-returns-then-same_name : goal.same_kind-returns-then-same_name
same_kind-returns-then-same_name t c =
    let list = rw (c.deref-then-same_name.ensures.value, c.deref-then-same_name-2.ensures.value) at c.same_exprs.ensures in
    rw (c.in-Call-Call.is-0, c.in-Call-Call.is-1) (call_same _ c.in-Call-Call.a0 c.in-Call-Call.b0 c.in-Call-Call.a1 c.in-Call-Call.b1 (c.if-same_name.ensures.0 refl) list)
