use Rattle.csub_rules.proofs.LawsBodies.{sound_body, least_body, complete_body, fine_body}
use Rattle.csub_rules.proofs.laws.bodies.Goals as goal

pub returns-clause-sound : goal.returns-clause-sound
returns-clause-sound c = λ r h b f p. (sound_body r h b).holds f p

pub returns-clause-least : goal.returns-clause-least
returns-clause-least c = least_body

pub returns-clause-complete : goal.returns-clause-complete
returns-clause-complete c = complete_body

pub returns-clause-fine : goal.returns-clause-fine
returns-clause-fine c = fine_body
