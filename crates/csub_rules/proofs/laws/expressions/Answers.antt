use Rattle.csub_rules.proofs.LawsSound.{sound}
use Rattle.csub_rules.proofs.LawsLeast.{least, complete}
use Rattle.csub_rules.proofs.LawsFine.{found}
use Rattle.csub_rules.proofs.laws.expressions.Goals as goal

pub returns-clause-sound : goal.returns-clause-sound
returns-clause-sound c = λ scope h e f p. (sound scope h e).holds f p

pub returns-clause-least : goal.returns-clause-least
returns-clause-least c = least

pub returns-clause-complete : goal.returns-clause-complete
returns-clause-complete c = complete

pub returns-clause-fine : goal.returns-clause-fine
returns-clause-fine c = λ scope h e types p. (found scope types h e p).fine
