use Rattle.csub_tree.specs.SpellsExpressions.{assignment}
use Rattle.csub_expr.proofs.LawsExpressions.{sound, complete, local_read}
use Rattle.csub_expr.proofs.laws.assignments.Goals as goal

pub returns-clause-sound : goal.returns-clause-sound
returns-clause-sound c d ts e r h = let t = sound d assignment ts e r h in (t.s, t.parts, t.spelled, t.fits)

pub returns-clause-complete : goal.returns-clause-complete
returns-clause-complete c = complete

pub returns-clause-local : goal.returns-clause-local
returns-clause-local c d = let l = local_read d assignment in (l.reads, l.refuses)
