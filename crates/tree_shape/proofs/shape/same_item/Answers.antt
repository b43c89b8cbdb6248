use Rattle.std.proofs.Common.{refl}
use Rattle.tree_shape.proofs.Shapes.{function_same}
use Rattle.tree_shape.proofs.shape.same_item.Goals as goal

pub returns-then-same_head : goal.returns-then-same_head
returns-then-same_head c =
    let list = rw (c.deref-then-same_head.ensures.value, c.deref-then-same_head-2.ensures.value) at c.same_stmts.ensures in
    rw (c.in-Function-Function.is-0, c.in-Function-Function.is-1) (function_same _ c.in-Function-Function.a0 c.in-Function-Function.b0 c.in-Function-Function.a1 c.in-Function-Function.b1 c.in-Function-Function.field-2-0 c.in-Function-Function.field-2-1 (c.if-same_head.ensures.0 refl) list)
