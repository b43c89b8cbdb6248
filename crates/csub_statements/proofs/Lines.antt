-- Lines, one after the other and as a whole.
use Rattle.std.proofs.Common.{◌≡◌, ◌∙◌, refl, sym, ap, append_assoc, ℕ, ◌≤◌, List, ◌++◌, length, map, drop, Option, Result, Ok, Err, OnOk}
use Rattle.std.proofs.lemmas.List.{append-nil}
use Rattle.std.proofs.Math.ListN.{drop_of_length-le}
use Rattle.csub_types.specs.declared.kind.IntKind.{IntKind}
use Rattle.csub_tree.specs.declared.statement.Stmt.{Stmt as CodeStmt}
use Rattle.csub_tree.specs.Statements.{Stmt, Perhaps, Stmts, NoStmts, MoreStmts, stmt_tree}
use Rattle.csub_tree.specs.Statements.{stmts_of as source_lines}
use Rattle.csub_semantics.specs.Syntax.{StmtTree, LocalTree, more_stmts, stmts_of}
use Rattle.csub_rules.specs.Here.{Here, entering}
use Rattle.csub_rules.specs.Past.{past, past_perhaps}
use Rattle.csub_resolution.specs.Values.{Defined}
use Rattle.csub_resolution.specs.Lines.{line, lines, locals, locals_perhaps}
use Rattle.csub_statements.specs.Resolvable.{line_list}

whole_lines : (defined : List Defined) (result : Option IntKind) (kind : IntKind) (h : Here) (ss : Stmts)
    → stmts_of (line_list defined result kind h ss) ≡ lines defined result kind h ss
whole_lines defined result kind h NoStmts = refl
whole_lines defined result kind h (MoreStmts a rest) =
    ap (λ xs. more_stmts (line defined result kind h a) xs) (whole_lines defined result kind (past h a) rest)

abbrev code_lines : List CodeStmt → Stmts
code_lines ss = source_lines (map stmt_tree ss)

-- all lines are behind
pub lines_done : (defined : List Defined) (result : Option IntKind) (kind : IntKind) (h k : Here) (i : ℕ) (ss : List CodeStmt) (made : List StmtTree)
    → length ss ≤ i → made ++ line_list defined result kind k (code_lines (drop i ss)) ≡ line_list defined result kind h (code_lines ss)
    → stmts_of made ≡ lines defined result kind h (code_lines ss)
lines_done defined result kind h k i ss made l e =
    let done : made ≡ made ++ line_list defined result kind k (code_lines (drop i ss)) =
    sym (append-nil made) ∙ ap (λ xs. made ++ line_list defined result kind k (code_lines xs)) (sym (drop_of_length-le ss l)) in
    ap stmts_of (done ∙ e) ∙ whole_lines defined result kind h (code_lines ss)

-- the objects of a `for`: those of its first part, and those of its body
pub for_locals : (h enter first : Here) (b : Perhaps) (a : Stmt) (old inside new : List LocalTree) → enter ≡ entering h → first ≡ past_perhaps enter b
    → inside ≡ old ++ locals_perhaps enter b → new ≡ inside ++ locals first a
    → new ≡ old ++ (locals_perhaps (entering h) b ++ locals (past_perhaps (entering h) b) a)
for_locals h enter first b a old inside new e f i n =
    let at : first ≡ past_perhaps (entering h) b = f ∙ ap (λ (k : Here). past_perhaps k b) e in
    let before : inside ≡ old ++ locals_perhaps (entering h) b = i ∙ ap (λ (k : Here). old ++ locals_perhaps k b) e in
    n ∙ ap (λ (k : Here). inside ++ locals k a) at ∙ ap (λ xs. xs ++ locals (past_perhaps (entering h) b) a) before
    ∙ append_assoc old (locals_perhaps (entering h) b) (locals (past_perhaps (entering h) b) a)

-- what holds whatever comes
pub always : {A E P : Type 0} (r : Result A E) → P → OnOk r P
always (Ok x) p = p
always (Err e) p = tt
