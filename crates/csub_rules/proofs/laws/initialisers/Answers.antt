use Rattle.csub_rules.proofs.LawsInits.{sound_init, least_init, complete_init, fine_init}
use Rattle.csub_rules.proofs.laws.initialisers.Goals as goal

pub returns-clause-sound : goal.returns-clause-sound
returns-clause-sound c = λ scope file t x f p. (sound_init scope file t x).holds f p

pub returns-clause-least : goal.returns-clause-least
returns-clause-least c = least_init

pub returns-clause-complete : goal.returns-clause-complete
returns-clause-complete c = complete_init

pub returns-clause-fine : goal.returns-clause-fine
returns-clause-fine c = λ scope file t x types h. fine_init scope file types t x h
