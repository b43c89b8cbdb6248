use Rattle.csub_stmt.proofs.DeclarationSound.{decl_sound}
use Rattle.csub_stmt.proofs.DeclarationComplete.{decl_reads}
use Rattle.csub_stmt.proofs.DeclarationLocal.{local_decl}
use Rattle.csub_stmt.proofs.laws.declarations.Goals as goal

pub returns-clause-sound : goal.returns-clause-sound
returns-clause-sound c d ts x r h = let t = decl_sound d ts x r h in (t.s, t.parts, t.spelled, t.fits)

pub returns-clause-complete : goal.returns-clause-complete
returns-clause-complete c x s h d fits r any = decl_reads d x s h fits r

pub returns-clause-local : goal.returns-clause-local
returns-clause-local c d = let l = local_decl d in (l.reads, l.refuses)
