use Rattle.csub_decisions.proofs.ValidLabels.{uses_in_Block, uses_in_Switch}
use Rattle.csub_decisions.proofs.valid.labels.+room.Goals as goal

pub room_after_label-returns-in-Block : goal.room_after_label-returns-in-Block
room_after_label-returns-in-Block t c =
    rw (c.in-Block.is, uses_in_Block c.args.name.now c.in-Block.stmts) (rw c.deref.ensures.value at c.room_after_labels.ensures)

pub room_after_label-returns-in-Switch : goal.room_after_label-returns-in-Switch
room_after_label-returns-in-Switch t c =
    rw (c.in-Switch.is, uses_in_Switch c.args.name.now c.in-Switch.field-0 c.in-Switch.stmts)
    (rw c.deref-in-Switch.ensures.value at c.room_after_labels-in-Switch.ensures)
