use Rattle.csub_tree.specs.SpellsExpressions.{conditional}
use Rattle.csub_expr.proofs.LawsExpressions.{sound, complete_conditional, local_read}
use Rattle.csub_expr.proofs.laws.conditionals.Goals as goal

pub returns-clause-sound : goal.returns-clause-sound
returns-clause-sound c d ts e r h = let t = sound d conditional ts e r h in (t.s, t.parts, t.spelled, t.fits)

pub returns-clause-complete : goal.returns-clause-complete
returns-clause-complete c = complete_conditional

pub returns-clause-local : goal.returns-clause-local
returns-clause-local c d = let l = local_read d conditional in (l.reads, l.refuses)
