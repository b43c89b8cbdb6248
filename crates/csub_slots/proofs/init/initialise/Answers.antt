use Rattle.csub_flat.specs.Seen.{write_seen}
use Rattle.csub_flat.proofs.LawsRows.{mapped_has}
use Rattle.csub_slots.specs.States.{FewInWrite}
use Rattle.csub_slots.proofs.init.initialise.Goals as goal

pub take_step-requires : goal.take_step-requires
take_step-requires c = mapped_has FewInWrite write_seen c.args.steps.now c.loop-step.step-index c.step-item.result c.requires c.loop-step-test.true c.step-item.is
