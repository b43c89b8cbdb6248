-- The lines of a block: what is read is spelled so, what is spelled so is read, and an answer depends on the tokens taken and on the
-- one after them.
use Rattle.std.proofs.Common.{◌≡◌, ℕ, suc, ◌≤◌, List, [], ◌∷◌, ◌++◌, length, Ok, true, refl, ap, arith, length-append}
use Rattle.csub_lex.specs.declared.token.Mark.TheVariants as marks
use Rattle.csub_lex.specs.declared.token.Token.{Token}
use Rattle.csub_tree.specs.Statements.{Stmt, Stmts, stmts_of}
use Rattle.csub_tree.specs.Depth.{stmt_depth, stmts_depth}
use Rattle.csub_tree.specs.SpellsStatements.{SpellsLine, SpellsLines}
use Rattle.csub_expr.specs.Looks.{begins}
use Rattle.csub_expr.proofs.LawsLocal.{Local, same_begins}
use Rattle.csub_stmt.specs.StatementDescent.{read_line, read_lines}
use Rattle.csub_stmt.proofs.LawsTakes.{Sound}
use Rattle.csub_stmt.proofs.LawsSequences.{repeated_sound, local_repeated}
use Rattle.csub_stmt.proofs.StatementShapes.{lines_of, stmts_most}
use Rattle.csub_stmt.proofs.StatementSound.{read_line_sound, read_line_shorter}
use Rattle.csub_stmt.proofs.StatementLocal.{local_read_line}
use Rattle.csub_stmt.proofs.StatementComplete.{lines_read}
-- the lines as a list, and back
pub use Rattle.csub_stmt.proofs.StatementComplete.{list_of, list_again}

-- the list of the lines that a list stands for
pub list_back : (xs : List Stmt) → list_of (stmts_of xs) ≡ xs
list_back [] = refl
list_back (x ∷ xs) = ap (λ (ys : List Stmt). x ∷ ys) (list_back xs)

-- lines that are read are spelled so
pub lines_sound : (d : ℕ) → Sound (List Stmt) (λ xs. SpellsLines (stmts_of xs)) (λ xs. stmts_depth (stmts_of xs)) d (read_lines d)
lines_sound d ts xs r h =
    let t = repeated_sound Stmt SpellsLine stmt_depth d (read_line d) (begins marks.CloseBrace) (read_line_sound d) (suc (length ts)) ts xs r h in
    record { s = t.s; parts = t.parts; spelled = lines_of t.spelled; fits = omega (arith, t.fits, stmts_most xs) }

-- lines that are spelled so are read where a closing brace follows
pub lines_complete : {xs : Stmts} {s : List Token} → SpellsLines xs s → (d : ℕ) → stmts_depth xs ≤ d → (r : List Token) → begins marks.CloseBrace r ≡ true → read_lines d (s ++ r) ≡ Ok (list_of xs, r)
unfolding read_line
lines_complete {s = s} h d fits r close = lines_read h d fits (suc (length (s ++ r))) (omega (arith, length-append s r)) r close

-- lines are read locally
pub lines_local : (d : ℕ) → Local (List Stmt) (read_lines d)
lines_local d = local_repeated Stmt (read_line d) (begins marks.CloseBrace) (read_line_shorter d) (local_read_line d) (same_begins marks.CloseBrace)
