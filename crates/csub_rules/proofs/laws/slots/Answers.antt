use Rattle.csub_rules.proofs.LawsSlots.{sound_slot, least_slot, complete_slot, fine_slot}
use Rattle.csub_rules.proofs.laws.slots.Goals as goal

pub returns-clause-sound : goal.returns-clause-sound
returns-clause-sound c = λ scope base at dims f p. (sound_slot scope base at dims).holds f p

pub returns-clause-least : goal.returns-clause-least
returns-clause-least c = least_slot

pub returns-clause-complete : goal.returns-clause-complete
returns-clause-complete c = complete_slot

pub returns-clause-fine : goal.returns-clause-fine
returns-clause-fine c = fine_slot
