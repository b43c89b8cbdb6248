use Rattle.std.proofs.Common.{arith, refl, ◌<◌, length}
use Rattle.csub_tree.specs.Statements.{stmt_tree}
use Rattle.tree_shape.specs.Shape.{stmt_shape}
use Rattle.tree_shape.proofs.Shapes.{shape_at, block_same, switch_same}
use Rattle.tree_shape.proofs.shape.+same_stmt.Goals as goal

pub same_stmts-returns-then-not-same_stmt : goal.same_stmts-returns-then-not-same_stmt
same_stmts-returns-then-not-same_stmt t c =
    let below : c.loop-i.i < length c.args.b.now = omega arith in
    (λ h. cc, λ h. c.if-not-same_stmt.ensures.1 (shape_at stmt_shape stmt_tree c.args.a.now c.args.b.now c.loop-i.i c.index-a-i.result c.index-b-i.result c.loop-i-test.true below h c.index-a-i.is c.index-b-i.is))

pub same_line-returns-in-Block-Block : goal.same_line-returns-in-Block-Block
same_line-returns-in-Block-Block t c =
    let list = rw (c.deref.ensures.value, c.deref-in-Block-Block.ensures.value) at c.same_stmts.ensures in
    rw (c.in-Block-Block.is-0, c.in-Block-Block.is-1) (block_same _ c.in-Block-Block.a0 c.in-Block-Block.b0 list)

pub same_line-returns-then-same_expr-4 : goal.same_line-returns-then-same_expr-4
same_line-returns-then-same_expr-4 t c =
    let list = rw (c.deref-then-same_expr-4.ensures.value, c.deref-then-same_expr-4-2.ensures.value) at c.same_stmts-then-same_expr-4.ensures in
    rw (c.in-Switch-Switch.is-0, c.in-Switch-Switch.is-1) (switch_same _ c.in-Switch-Switch.a0 c.in-Switch-Switch.b0 c.in-Switch-Switch.a1 c.in-Switch-Switch.b1 (c.if-same_expr-4.ensures.0 refl) list)
