-- Lists one after the other and as a whole.
use Rattle.std.proofs.Common.{◌≡◌, ◌∙◌, refl, sym, ap, ℕ, ◌+◌, ◌<◌, List, ◌∷◌, length, map, drop, get_or, Option, Some, None, ◌||◌}
use Rattle.std.specs.List.{list_any}
use Rattle.std.proofs.lemmas.List.{drop_more}
use Rattle.csub_types.specs.declared.kind.IntKind.{IntKind}
use Rattle.csub_tree.specs.declared.declaration.Declarator.{Declarator as CodeDeclarator}
use Rattle.csub_tree.specs.declared.statement.Stmt.{Stmt as CodeStmt}
use Rattle.csub_tree.specs.Declarations.{Declarator, declarator_tree}
use Rattle.csub_tree.specs.Statements.{Stmt, Stmts, NoStmts, MoreStmts, stmt_tree, stmts_of}
use Rattle.csub_objects.specs.Types.{TypeTree}
use Rattle.csub_rules.specs.declared.fault.Fault.{Fault}
use Rattle.csub_rules.specs.Faults.{fault_if, ◌or_earlier◌}
use Rattle.csub_rules.specs.Here.{Here}
use Rattle.csub_rules.specs.Locals.{past_var, past_vars, var_fault, vars_fault}
use Rattle.csub_rules.specs.Past.{past, past_lines}
use Rattle.csub_rules.specs.CaseLabels.{CaseLabel, label_eq, LabelAt, label_of, with_label, again_fault, labels_fault}
use Rattle.csub_rules.specs.StmtFaults.{Surroundings, stmt_fault, lines_fault}
use Rattle.csub_rules.proofs.LawsEarlier.{earlier_assoc}

pub dropped : {X : Type 0} (xs : List X) (i : ℕ) (x : X) → i < length xs → x ≡ get_or xs i x → x ∷ drop (i + 1) xs ≡ drop i xs
dropped xs i x h e = sym (drop_more xs i x h ∙ ap (λ y. y ∷ drop (i + 1) xs) (sym e))

-- one fault more, and those that are to come
more_fault : (now least this all_this rest all_rest whole : Option Fault) → now ≡ (least or_earlier this) → this ≡ all_this → rest ≡ all_rest
    → (all_this or_earlier all_rest) ≡ whole → (now or_earlier rest) ≡ (least or_earlier whole)
more_fault now least this all_this rest all_rest whole n t r w =
    ap (λ x. x or_earlier rest) n ∙ ap (λ x. (least or_earlier this) or_earlier x) r ∙ earlier_assoc least this all_rest
    ∙ ap (λ x. least or_earlier (x or_earlier all_rest)) t ∙ ap (λ x. least or_earlier x) w

abbrev vars : List CodeDeclarator → List Declarator
vars ds = map declarator_tree ds

pub past_more : (h k : Here) (base : Option TypeTree) (ds : List CodeDeclarator) (i : ℕ) (d : CodeDeclarator) → i < length ds → d ≡ get_or ds i d
    → k ≡ past_var h base (declarator_tree d) → past_vars k base (vars (drop (i + 1) ds)) ≡ past_vars h base (vars (drop i ds))
past_more h k base ds i d l e p =
    ap (λ (x : Here). past_vars x base (vars (drop (i + 1) ds))) p ∙ ap (λ xs. past_vars h base (vars xs)) (dropped ds i d l e)

pub fault_more : (h k : Here) (base : Option TypeTree) (ds : List CodeDeclarator) (i : ℕ) (d : CodeDeclarator) (least this now : Option Fault)
    → i < length ds → d ≡ get_or ds i d → k ≡ past_var h base (declarator_tree d) → this ≡ var_fault h base (declarator_tree d)
    → now ≡ (least or_earlier this)
    → (now or_earlier vars_fault k base (vars (drop (i + 1) ds))) ≡ (least or_earlier vars_fault h base (vars (drop i ds)))
fault_more h k base ds i d least this now l e p f n =
    more_fault now least this (var_fault h base (declarator_tree d)) (vars_fault k base (vars (drop (i + 1) ds)))
    (vars_fault (past_var h base (declarator_tree d)) base (vars (drop (i + 1) ds))) (vars_fault h base (vars (drop i ds))) n f
    (ap (λ (x : Here). vars_fault x base (vars (drop (i + 1) ds))) p) (ap (λ xs. vars_fault h base (vars xs)) (dropped ds i d l e))

abbrev pub lines : List CodeStmt → Stmts
lines ss = stmts_of (map stmt_tree ss)

pub lines_past_more : (h k : Here) (ss : List CodeStmt) (i : ℕ) (s : CodeStmt) → i < length ss → s ≡ get_or ss i s → k ≡ past h (stmt_tree s)
    → past_lines k (lines (drop (i + 1) ss)) ≡ past_lines h (lines (drop i ss))
lines_past_more h k ss i s l e p =
    ap (λ (x : Here). past_lines x (lines (drop (i + 1) ss))) p ∙ ap (λ xs. past_lines h (lines xs)) (dropped ss i s l e)

pub lines_fault_more : (a : Surroundings) (h k : Here) (ss : List CodeStmt) (i : ℕ) (s : CodeStmt) (least this now : Option Fault)
    → i < length ss → s ≡ get_or ss i s → k ≡ past h (stmt_tree s) → this ≡ stmt_fault a h (stmt_tree s) → now ≡ (least or_earlier this)
    → (now or_earlier lines_fault a k (lines (drop (i + 1) ss))) ≡ (least or_earlier lines_fault a h (lines (drop i ss)))
lines_fault_more a h k ss i s least this now l e p f n =
    more_fault now least this (stmt_fault a h (stmt_tree s)) (lines_fault a k (lines (drop (i + 1) ss)))
    (lines_fault a (past h (stmt_tree s)) (lines (drop (i + 1) ss))) (lines_fault a h (lines (drop i ss))) n f
    (ap (λ (x : Here). lines_fault a x (lines (drop (i + 1) ss))) p) (ap (λ xs. lines_fault a h (lines xs)) (dropped ss i s l e))

-- labels count by which are among them alone
abbrev pub SameLabels : List CaseLabel → List CaseLabel → Type 0
SameLabels s t = (l : CaseLabel) → list_any (label_eq l) s ≡ list_any (label_eq l) t

same_again : (s t : List CaseLabel) (o : Option LabelAt) → SameLabels s t → again_fault s o ≡ again_fault t o
same_again s t None e = refl
same_again s t (Some l) e = ap (λ b. fault_if b 18 l.span) (e l.label)

same_with : (s t : List CaseLabel) (o : Option LabelAt) → SameLabels s t → SameLabels (with_label s o) (with_label t o)
same_with s t None e = e
same_with s t (Some m) e = λ l. ap (λ b. label_eq l m.label || b) (e l)

same_labels : (k : IntKind) (h : Here) (ss : Stmts) (s t : List CaseLabel) → SameLabels s t → labels_fault k h s ss ≡ labels_fault k h t ss
same_labels k h NoStmts s t e = refl
same_labels k h (MoreStmts a rest) s t e =
    let o : Option LabelAt = label_of k h.scope a in
    ap (λ x. x or_earlier labels_fault k (past h a) (with_label s o) rest) (same_again s t o e)
    ∙ ap (λ x. again_fault t o or_earlier x) (same_labels k (past h a) rest (with_label s o) (with_label t o) (same_with s t o e))

pub labels_more : (k : IntKind) (h p : Here) (seen after : List CaseLabel) (ss : List CodeStmt) (i : ℕ) (s : CodeStmt) (o : Option LabelAt)
    (least this now : Option Fault) → i < length ss → s ≡ get_or ss i s → p ≡ past h (stmt_tree s) → o ≡ label_of k h.scope (stmt_tree s)
    → this ≡ again_fault seen o → SameLabels after (with_label seen o) → now ≡ (least or_earlier this)
    → (now or_earlier labels_fault k p after (lines (drop (i + 1) ss))) ≡ (least or_earlier labels_fault k h seen (lines (drop i ss)))
labels_more k h p seen after ss i s o least this now l e q m f same n =
    let rest : Stmts = lines (drop (i + 1) ss) in
    let t : Stmt = stmt_tree s in
    more_fault now least this (again_fault seen (label_of k h.scope t)) (labels_fault k p after rest)
    (labels_fault k (past h t) (with_label seen (label_of k h.scope t)) rest) (labels_fault k h seen (lines (drop i ss))) n
    (f ∙ ap (λ x. again_fault seen x) m)
    (same_labels k p rest after (with_label seen o) same ∙ ap (λ x. labels_fault k p (with_label seen x) rest) m
    ∙ ap (λ (x : Here). labels_fault k x (with_label seen (label_of k h.scope t)) rest) q)
    (ap (λ xs. labels_fault k h seen (lines xs)) (dropped ss i s l e))
