use Rattle.csub_rules.proofs.LawsSlots.{sound_base, least_base, complete_base, fine_base}
use Rattle.csub_rules.proofs.laws.bases.Goals as goal

pub returns-clause-sound : goal.returns-clause-sound
returns-clause-sound c = λ scope base f p. (sound_base scope base).holds f p

pub returns-clause-least : goal.returns-clause-least
returns-clause-least c = least_base

pub returns-clause-complete : goal.returns-clause-complete
returns-clause-complete c = complete_base

pub returns-clause-fine : goal.returns-clause-fine
returns-clause-fine c = fine_base
