use Rattle.csub_slots.proofs.Fills.{map_set}
use Rattle.csub_slots.proofs.slot.set_slot.Goals as goal

pub returns-then-at-slots : goal.returns-then-at-slots
returns-then-at-slots c = map_set _ _ _
