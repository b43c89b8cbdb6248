use Rattle.csub_expr.proofs.LawsExpressions.{sound_init, complete_init, local_init}
use Rattle.csub_expr.proofs.laws.initialisers.Goals as goal

pub returns-clause-sound : goal.returns-clause-sound
returns-clause-sound c d ts i r h = let t = sound_init d ts i r h in (t.s, t.parts, t.spelled, t.fits)

pub returns-clause-complete : goal.returns-clause-complete
returns-clause-complete c = complete_init

pub returns-clause-local : goal.returns-clause-local
returns-clause-local c d = let l = local_init d in (l.reads, l.refuses)
