use Rattle.csub_rules.proofs.LawsParams.{sound_param, least_param, complete_param, fine_param}
use Rattle.csub_rules.proofs.laws.parameters.Goals as goal

pub returns-clause-sound : goal.returns-clause-sound
returns-clause-sound c = λ scope p f h. (sound_param scope p).holds f h

pub returns-clause-least : goal.returns-clause-least
returns-clause-least c = least_param

pub returns-clause-complete : goal.returns-clause-complete
returns-clause-complete c = complete_param

pub returns-clause-fine : goal.returns-clause-fine
returns-clause-fine c = fine_param
