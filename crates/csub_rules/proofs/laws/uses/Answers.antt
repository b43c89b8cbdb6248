use Rattle.csub_rules.proofs.LawsUses.{sound_use, least_use, complete_use, fine_use}
use Rattle.csub_rules.proofs.laws.uses.Goals as goal

pub returns-clause-sound : goal.returns-clause-sound
returns-clause-sound c = λ scope u e f p. (sound_use scope u e).holds f p

pub returns-clause-least : goal.returns-clause-least
returns-clause-least c = least_use

pub returns-clause-complete : goal.returns-clause-complete
returns-clause-complete c = complete_use

pub returns-clause-fine : goal.returns-clause-fine
returns-clause-fine c = λ scope u e types h. fine_use scope types u e h
