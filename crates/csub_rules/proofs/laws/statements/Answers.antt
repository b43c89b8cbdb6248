use Rattle.csub_rules.proofs.LawsStmts.{sound_stmt, least_stmt, complete_stmt}
use Rattle.csub_rules.proofs.LawsFineStmts.{stmt_found}
use Rattle.csub_rules.proofs.laws.statements.Goals as goal

pub returns-clause-sound : goal.returns-clause-sound
returns-clause-sound c = λ a h t f p. (sound_stmt a h t).holds f p

pub returns-clause-least : goal.returns-clause-least
returns-clause-least c = least_stmt

pub returns-clause-complete : goal.returns-clause-complete
returns-clause-complete c = complete_stmt

pub returns-clause-fine : goal.returns-clause-fine
returns-clause-fine c = λ a h t types p. (stmt_found a h t types p).fine
