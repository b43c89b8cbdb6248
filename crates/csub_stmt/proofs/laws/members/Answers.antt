use Rattle.csub_stmt.proofs.DeclarationSound.{field_sound}
use Rattle.csub_stmt.proofs.DeclarationComplete.{field_reads}
use Rattle.csub_stmt.proofs.DeclarationLocal.{local_field}
use Rattle.csub_stmt.proofs.laws.members.Goals as goal

pub returns-clause-sound : goal.returns-clause-sound
returns-clause-sound c d ts x r h = let t = field_sound d ts x r h in (t.s, t.parts, t.spelled, t.fits)

pub returns-clause-complete : goal.returns-clause-complete
returns-clause-complete c x s h d fits r any = field_reads d x s h fits r tt

pub returns-clause-local : goal.returns-clause-local
returns-clause-local c d = let l = local_field d in (l.reads, l.refuses)
