use Rattle.csub_rules.proofs.LawsUses.{sound_enum, least_enum, complete_enum, fine_enum}
use Rattle.csub_rules.proofs.laws.enum_constants.Goals as goal

pub returns-clause-sound : goal.returns-clause-sound
returns-clause-sound c = λ scope next at v f p. (sound_enum scope next at v).holds f p

pub returns-clause-least : goal.returns-clause-least
returns-clause-least c = least_enum

pub returns-clause-complete : goal.returns-clause-complete
returns-clause-complete c = complete_enum

pub returns-clause-fine : goal.returns-clause-fine
returns-clause-fine c = λ scope next at v types h. fine_enum scope types next at v h
