use Rattle.std.proofs.Common.{◌≡◌, List, ◌++◌, Ok, sym, subst}
use Rattle.csub_lex.specs.declared.token.Mark.TheVariants.{CloseParen}
use Rattle.csub_lex.specs.declared.token.Token.{Token}
use Rattle.csub_expr.specs.Looks.{rest, head_span}
use Rattle.csub_expr.proofs.LawsTokens.{begins_is}
use Rattle.csub_stmt.specs.DeclarationDescent.{params_at}
use Rattle.csub_stmt.proofs.DeclarationSound.{params_sound}
use Rattle.csub_stmt.proofs.DeclarationComplete.{params_reads}
use Rattle.csub_stmt.proofs.DeclarationLocal.{local_params}
use Rattle.csub_stmt.proofs.laws.parameters.Goals as goal

pub returns-clause-sound : goal.returns-clause-sound
returns-clause-sound c d ts ps r h = let t = params_sound d ts ps r h in (t.s, t.parts, t.spelled, t.fits)

pub returns-clause-complete : goal.returns-clause-complete
returns-clause-complete c ps s h d fits r close = subst (λ (u : List Token). params_at d (s ++ u) ≡ Ok (ps, u)) (sym (begins_is CloseParen r close)) (params_reads d h fits (head_span r) (rest r))

pub returns-clause-local : goal.returns-clause-local
returns-clause-local c d = let l = local_params d in (l.reads, l.refuses)
