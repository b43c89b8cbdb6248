-- Labels one after the other and as a whole.
use Rattle.std.proofs.Common.{◌≡◌, ◌∙◌, refl, sym, ap, ℕ, ◌+◌, ◌<◌, List, ◌++◌, length, drop, get_or, Option}
use Rattle.csub_tree.specs.declared.name.Name.{Name as NameAt}
use Rattle.csub_objects.specs.Types.{Name}
use Rattle.csub_rules.specs.declared.fault.Fault.{Fault}
use Rattle.csub_rules.specs.Faults.{◌or_earlier◌}
use Rattle.csub_rules.specs.Labels.{labels_of, labels_of_lines, past_names, twice_fault}
use Rattle.csub_tree.specs.declared.statement.Stmt.{Stmt as CodeStmt}
use Rattle.csub_tree.specs.Statements.{stmt_tree}
use Rattle.csub_rules.proofs.LawsEarlier.{earlier_assoc}
use Rattle.csub_bodies.proofs.Loops.{dropped, lines}
use Rattle.csub_rules.proofs.LawsBodies.{past_names-append, twice_fault-append}

pub past_names_append : (seen : List Name) (xs ys : List NameAt) → past_names seen (xs ++ ys) ≡ past_names (past_names seen xs) ys
past_names_append = past_names-append

pub twice_fault_append : (seen : List Name) (xs ys : List NameAt)
    → twice_fault seen (xs ++ ys) ≡ (twice_fault seen xs or_earlier twice_fault (past_names seen xs) ys)
twice_fault_append = twice_fault-append

-- two statements one after the other
pub both_names : (seen mid end : List Name) (xs ys : List NameAt) → mid ≡ past_names seen xs → end ≡ past_names mid ys → end ≡ past_names seen (xs ++ ys)
both_names seen mid end xs ys m e = e ∙ ap (λ n. past_names n ys) m ∙ sym (past_names_append seen xs ys)

pub both_faults : (seen mid : List Name) (xs ys : List NameAt) (f g r : Option Fault) → mid ≡ past_names seen xs → f ≡ twice_fault seen xs
    → g ≡ twice_fault mid ys → r ≡ (f or_earlier g) → r ≡ twice_fault seen (xs ++ ys)
both_faults seen mid xs ys f g r m p q j =
    j ∙ ap (λ x. x or_earlier g) p ∙ ap (λ x. twice_fault seen xs or_earlier x) (q ∙ ap (λ n. twice_fault n ys) m)
    ∙ sym (twice_fault_append seen xs ys)

-- one line more
pub names_more : (seen mid : List Name) (ss : List CodeStmt) (i : ℕ) (s : CodeStmt) → i < length ss → s ≡ get_or ss i s
    → mid ≡ past_names seen (labels_of (stmt_tree s))
    → past_names mid (labels_of_lines (lines (drop (i + 1) ss))) ≡ past_names seen (labels_of_lines (lines (drop i ss)))
names_more seen mid ss i s l e m =
    both_names seen mid (past_names mid (labels_of_lines (lines (drop (i + 1) ss)))) (labels_of (stmt_tree s)) (labels_of_lines (lines (drop (i + 1) ss)))
    m refl ∙ ap (λ xs. past_names seen (labels_of_lines (lines xs))) (dropped ss i s l e)

pub faults_more : (seen mid : List Name) (ss : List CodeStmt) (i : ℕ) (s : CodeStmt) (least f now : Option Fault) → i < length ss
    → s ≡ get_or ss i s → mid ≡ past_names seen (labels_of (stmt_tree s)) → f ≡ twice_fault seen (labels_of (stmt_tree s))
    → now ≡ (least or_earlier f)
    → (now or_earlier twice_fault mid (labels_of_lines (lines (drop (i + 1) ss))))
    ≡ (least or_earlier twice_fault seen (labels_of_lines (lines (drop i ss))))
faults_more seen mid ss i s least f now l e m p n =
    let rest : Option Fault = twice_fault mid (labels_of_lines (lines (drop (i + 1) ss))) in
    ap (λ x. x or_earlier rest) n ∙ earlier_assoc least f rest
    ∙ ap (λ x. least or_earlier x)
    (both_faults seen mid (labels_of (stmt_tree s)) (labels_of_lines (lines (drop (i + 1) ss))) f rest (f or_earlier rest) m p refl refl
    ∙ ap (λ xs. twice_fault seen (labels_of_lines (lines xs))) (dropped ss i s l e))
