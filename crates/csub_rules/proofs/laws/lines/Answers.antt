use Rattle.csub_rules.proofs.LawsStmts.{sound_lines, least_lines, complete_lines}
use Rattle.csub_rules.proofs.LawsFineStmts.{lines_found}
use Rattle.csub_rules.proofs.laws.lines.Goals as goal

pub returns-clause-sound : goal.returns-clause-sound
returns-clause-sound c = λ a h t f p. (sound_lines a h t).holds f p

pub returns-clause-least : goal.returns-clause-least
returns-clause-least c = least_lines

pub returns-clause-complete : goal.returns-clause-complete
returns-clause-complete c = complete_lines

pub returns-clause-fine : goal.returns-clause-fine
returns-clause-fine c = λ a h t types p. (lines_found a h t types p).fine
