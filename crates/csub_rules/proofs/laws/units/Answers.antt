use Rattle.csub_rules.proofs.LawsUnits.{sound_unit, least_unit, complete_unit}
use Rattle.csub_rules.proofs.LawsFineItems.{fine_unit}
use Rattle.csub_rules.proofs.laws.units.Goals as goal

pub returns-clause-sound : goal.returns-clause-sound
returns-clause-sound c = sound_unit

pub returns-clause-least : goal.returns-clause-least
returns-clause-least c = least_unit

pub returns-clause-complete : goal.returns-clause-complete
returns-clause-complete c = complete_unit

pub returns-clause-fine : goal.returns-clause-fine
returns-clause-fine c = fine_unit
