use Rattle.std.proofs.Common.{◌≡◌, List, ◌++◌, Ok, subst}
use Rattle.csub_tree.specs.Statements.{Stmt}
use Rattle.csub_stmt.specs.StatementDescent.{read_lines}
use Rattle.csub_stmt.proofs.LawsStatements.{list_back, lines_sound, lines_complete, lines_local}
use Rattle.csub_stmt.proofs.laws.lines.Goals as goal

pub returns-clause-sound : goal.returns-clause-sound
returns-clause-sound c d ts xs r h = let t = lines_sound d ts xs r h in (t.s, t.parts, t.spelled, t.fits)

pub returns-clause-complete : goal.returns-clause-complete
returns-clause-complete c xs s h d fits r close = subst (λ (ys : List Stmt). read_lines d (s ++ r) ≡ Ok (ys, r)) (list_back xs) (lines_complete h d fits r close)

pub returns-clause-local : goal.returns-clause-local
returns-clause-local c d = let l = lines_local d in (l.reads, l.refuses)
