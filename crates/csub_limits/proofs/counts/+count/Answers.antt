use Rattle.csub_limits.proofs.Counting.{count-Block, count-Switch, SomeIff-after, SomeIff-none}
use Rattle.csub_limits.proofs.counts.+count.Goals as goal

pub room_after_stmt-returns-in-Block : goal.room_after_stmt-returns-in-Block
room_after_stmt-returns-in-Block t c =
    rw (c.in-Block.is, count-Block c.args.measure c.in-Block.stmts) (rw c.deref-in-Block.ensures.value at c.room_after_stmts.ensures)

pub room_after_stmt-returns-in_err-after_value-in-Switch :
    goal.room_after_stmt-returns-in_err-after_value-in-Switch
room_after_stmt-returns-in_err-after_value-in-Switch t c =
    rw (c.in-Switch.is, count-Switch c.args.measure c.in-Switch.value c.in-Switch.stmts)
    (SomeIff-none _ _ _ _ _ c.from_residual-in_err-after_value-in-Switch.ensures (rw c.deref-in-Switch.ensures.value at c.in_err-after_value-in-Switch.ensures))

pub room_after_stmt-returns-in_ok-after_value-in-Switch :
    goal.room_after_stmt-returns-in_ok-after_value-in-Switch
room_after_stmt-returns-in_ok-after_value-in-Switch t c =
    rw (c.in-Switch.is, count-Switch c.args.measure c.in-Switch.value c.in-Switch.stmts)
    (let enough = rw c.deref-in-Switch.ensures.value at c.in_ok-after_value-in-Switch.ensures in
    SomeIff-after _ _ _ _ _ enough.0 enough.1 (rw c.deref-in-Switch-2.ensures.value at c.room_after_stmts-in-Switch.ensures))
