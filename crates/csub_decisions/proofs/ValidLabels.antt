-- The names of labels, and how often each stands among them.
use Rattle.std.proofs.Common.{◌≡◌, ◌≢◌, ◌↔◌, ◌∙◌, ℕ, ◌+◌, ◌≤◌, List, [], ◌∷◌, ◌++◌, ◌||◌, ◌&&◌, map, suc, get_or, Option, Some, None, is_none, is_some, Bool, true, false, not, nat_lt, nat_le, sum_by, All, AllPairs, IsTrue, refl, ap, sym, arith, if◌then◌else◌, bytes_eq}
use Rattle.std.specs.List.{list_any, list_all}
use Rattle.std.specs.Option.{SomeIff}
use Rattle.std.specs.declared.vec.Vec.{Vec}
use Rattle.std.specs.declared.alloc.Global.{Global}
use Rattle.std.specs.Cmp.Lexicographic.{bytes_decides}
use Rattle.std.proofs.lemmas.List.{map-append}
use Rattle.std.proofs.lemmas.List.Elements.{All-nil, All-cons, All-head, All-tail}
use Rattle.std.proofs.lemmas.List.Folds.{list_all-append}
use Rattle.std.proofs.lemmas.List.Kept.{AllPairs-cons}
use Rattle.std.proofs.lemmas.List.Sums.{sum_by-append, sum_by-cons, AllPass-from_list_all, list_all-from_AllPass}
use Rattle.std.proofs.lemmas.Bool.Decides.{nat_tests}
use Rattle.csub_objects.specs.Types.{Name}
use Rattle.csub_semantics.specs.declared.function.Function.{Function}
use Rattle.csub_semantics.specs.declared.function.RPart.{RPart}
use Rattle.csub_semantics.specs.declared.function.RStmt.{RStmt, Block, Switch}
use Rattle.csub_semantics.proofs.LawsRows.{stmt_tree-Block, stmt_tree-Switch}
use Rattle.csub_semantics.specs.Syntax.{StmtTree, StmtTrees, ElseTree, FunctionTree, parts, block, conditional, while_loop, do_loop, for_loop, switch_on, case_label, default_label, breaks, continues, goes_to, marked, no_stmt, more_stmts, no_else, else_stmt, stmt_tree, stmts_of, function_tree}
use Rattle.csub_semantics.specs.Points.{at}
use Rattle.csub_semantics.specs.Successors.{Around, Mark, marks, marks_list, marks_else, leaving, switching, in_while, in_for, enter_list}
use Rattle.csub_semantics.specs.Flows.{to_exit}
use Rattle.csub_validity.specs.Valid.{labels_of}
use Rattle.csub_decisions.specs.ProgramChecks.{label_names, label_names_list, label_names_else, uses, is_once}

module _ {X : Type 0} where
  abbrev names_in : List (Mark X) → List Name
  names_in ms = map (λ (m : Mark X). m.name) ms

  -- the names of labelled statements don't depend on where they lead
  mutual
    names_of_marks : (s : StmtTree) (name : List ℕ → ℕ → ℕ → X) (around : Around X) → names_in (marks s name around) ≡ label_names s
    names_of_marks (parts ps) name around = refl
    names_of_marks (block stmts) name around = names_of_list stmts 0 name around
    names_of_marks (conditional p t e) name around =
        map-append (λ (m : Mark X). m.name) (marks t (λ q. name (0 ∷ q)) around) (marks_else e (λ q. name (1 ∷ q)) around)
        ∙ ap (λ ns. ns ++ names_in (marks_else e (λ q. name (1 ∷ q)) around)) (names_of_marks t (λ q. name (0 ∷ q)) around)
        ∙ ap (λ ns. label_names t ++ ns) (names_of_else e (λ q. name (1 ∷ q)) around)
    names_of_marks (while_loop p s) name around = names_of_marks s (λ q. name (0 ∷ q)) (in_while p name around)
    names_of_marks (do_loop s p) name around = names_of_marks s (λ q. name (0 ∷ q)) (in_while p name around)
    names_of_marks (for_loop first p third s) name around = names_of_marks s (λ q. name (0 ∷ q)) (in_for first p third name around)
    names_of_marks (switch_on p stmts) name around = names_of_list stmts 0 name (switching around)
    names_of_marks (case_label v) name around = refl
    names_of_marks default_label name around = refl
    names_of_marks breaks name around = refl
    names_of_marks continues name around = refl
    names_of_marks (goes_to a p) name around = refl
    names_of_marks (marked a s) name around = ap (λ ns. a ∷ ns) (names_of_marks s (λ q. name (0 ∷ q)) around)

    names_of_list : (stmts : StmtTrees) (i : ℕ) (name : List ℕ → ℕ → ℕ → X) (around : Around X) → names_in (marks_list stmts i name around) ≡ label_names_list stmts
    names_of_list no_stmt i name around = refl
    names_of_list (more_stmts s rest) i name around =
        let here = leaving (enter_list rest (i + 1) name around) around in
        map-append (λ (m : Mark X). m.name) (marks s (λ q. name (i ∷ q)) here) (marks_list rest (i + 1) name around)
        ∙ ap (λ ns. ns ++ names_in (marks_list rest (i + 1) name around)) (names_of_marks s (λ q. name (i ∷ q)) here)
        ∙ ap (λ ns. label_names s ++ ns) (names_of_list rest (i + 1) name around)

    names_of_else : (e : ElseTree) (name : List ℕ → ℕ → ℕ → X) (around : Around X) → names_in (marks_else e name around) ≡ label_names_else e
    names_of_else no_else name around = refl
    names_of_else (else_stmt s) name around = names_of_marks s name around

-- the labels of a function
pub names_of_labels : (f : FunctionTree) → labels_of f ≡ label_names_list f.body
names_of_labels f = names_of_list f.body 0 at to_exit

abbrev use_of : Name → Name → ℕ
use_of a b = if bytes_eq b a then 1 else 0

uses-cons : (a b : Name) (names : List Name) → uses a (b ∷ names) ≡ use_of a b + uses a names
uses-cons a b names = sum_by-cons (use_of a) b names

pub uses_append : (a : Name) (xs ys : List Name) → uses a (xs ++ ys) ≡ uses a xs + uses a ys
uses_append a xs ys = sum_by-append (use_of a) xs ys

pub all_append : (p : Name → Bool) (xs ys : List Name) → list_all p (xs ++ ys) ≡ (list_all p xs && list_all p ys)
all_append p xs ys = list_all-append p xs ys

-- what a pass over the lines of a list says of all their labels
pub uses_in_lines : (a : Name) (ss : List RStmt) → uses a (label_names_list (stmts_of (map stmt_tree ss))) ≡ sum_by (λ s. uses a (label_names (stmt_tree s))) ss
uses_in_lines a [] = refl
uses_in_lines a (s ∷ ss) =
    uses_append a (label_names (stmt_tree s)) (label_names_list (stmts_of (map stmt_tree ss)))
    ∙ ap (λ n. uses a (label_names (stmt_tree s)) + n) (uses_in_lines a ss)
    ∙ sym (sum_by-cons (λ t. uses a (label_names (stmt_tree t))) s ss)

pub all_in_lines : (p : Name → Bool) (ss : List RStmt) → list_all p (label_names_list (stmts_of (map stmt_tree ss))) ≡ list_all (λ s. list_all p (label_names (stmt_tree s))) ss
all_in_lines p [] = refl
all_in_lines p (s ∷ ss) =
    list_all-append p (label_names (stmt_tree s)) (label_names_list (stmts_of (map stmt_tree ss)))
    ∙ ap (λ b. list_all p (label_names (stmt_tree s)) && b) (all_in_lines p ss)

pub uses_in_Block : (a : Name) (stmts : Vec RStmt Global) → uses a (label_names (stmt_tree (Block stmts))) ≡ sum_by (λ s. uses a (label_names (stmt_tree s))) stmts.items
uses_in_Block a stmts = ap (λ t. uses a (label_names t)) (stmt_tree-Block stmts) ∙ uses_in_lines a stmts.items

pub uses_in_Switch : (a : Name) (p : RPart) (stmts : Vec RStmt Global) → uses a (label_names (stmt_tree (Switch p stmts))) ≡ sum_by (λ s. uses a (label_names (stmt_tree s))) stmts.items
uses_in_Switch a p stmts = ap (λ t. uses a (label_names t)) (stmt_tree-Switch p stmts) ∙ uses_in_lines a stmts.items

pub all_in_Block : (p : Name → Bool) (stmts : Vec RStmt Global) → list_all p (label_names (stmt_tree (Block stmts))) ≡ list_all (λ s. list_all p (label_names (stmt_tree s))) stmts.items
all_in_Block p stmts = ap (λ t. list_all p (label_names t)) (stmt_tree-Block stmts) ∙ all_in_lines p stmts.items

pub all_in_Switch : (p : Name → Bool) (part : RPart) (stmts : Vec RStmt Global) → list_all p (label_names (stmt_tree (Switch part stmts))) ≡ list_all (λ s. list_all p (label_names (stmt_tree s))) stmts.items
all_in_Switch p part stmts = ap (λ t. list_all p (label_names t)) (stmt_tree-Switch part stmts) ∙ all_in_lines p stmts.items

-- the same of a function's labels
pub uses_in_function : (f : Function) (a : Name) → uses a (labels_of (function_tree f)) ≡ sum_by (λ s. uses a (label_names (stmt_tree s))) f.body.items
uses_in_function f a = ap (uses a) (names_of_labels (function_tree f)) ∙ uses_in_lines a f.body.items

pub all_in_function : (f : Function) (p : Name → Bool) → list_all p (labels_of (function_tree f)) ≡ list_all (λ s. list_all p (label_names (stmt_tree s))) f.body.items
all_in_function f p = ap (list_all p) (names_of_labels (function_tree f)) ∙ all_in_lines p f.body.items

-- a name stands among names where it is used
some_more : (n : ℕ) → nat_lt 0 (1 + n) ≡ true
some_more n = grind (arith, nat_tests)

none_more : (n : ℕ) → 0 + n ≡ n
none_more n = omega arith

any_used : (a : Name) (names : List Name) → nat_lt 0 (uses a names) ≡ list_any (λ b. bytes_eq b a) names
any_used a [] = refl
any_used a (b ∷ names) = ap (λ n. nat_lt 0 n) (uses-cons a b names) ∙ by (bytes_eq b a) (any_used a names)
  where
    by : (t : Bool) → nat_lt 0 (uses a names) ≡ list_any (λ b. bytes_eq b a) names → nat_lt 0 ((if t then 1 else 0) + uses a names) ≡ (t || list_any (λ b. bytes_eq b a) names)
    by true h = some_more (uses a names)
    by false h = ap (λ n. nat_lt 0 n) (none_more (uses a names)) ∙ h

-- no room is left for a name where it stands among names, and room for one where it stands there once
none_left : (r : Option ℕ) (n v : ℕ) → SomeIff r (n ≤ 0) v → is_none r ≡ nat_lt 0 n
none_left None n v h = grind (arith, nat_tests, h)
none_left (Some x) n v h = grind (arith, nat_tests, h.0)

some_left : (r : Option ℕ) (n v : ℕ) → SomeIff r (n ≤ 1) v → is_some r ≡ nat_le n 1
some_left None n v h = grind (arith, nat_tests, h)
some_left (Some x) n v h = grind (arith, nat_tests, h.0)

pub any_by_room : (r : Option ℕ) (a : Name) (names : List Name) (n v : ℕ) → uses a names ≡ n → SomeIff r (n ≤ 0) v → is_none r ≡ list_any (λ b. bytes_eq b a) names
any_by_room r a names n v same h = none_left r n v h ∙ ap (nat_lt 0) (sym same) ∙ any_used a names

none_from_some : (r : Option ℕ) (b : Bool) → is_some r ≡ not b → b ≡ is_none r
none_from_some None true e = refl
none_from_some None false e = cc
none_from_some (Some x) true e = cc
none_from_some (Some x) false e = refl

pub is_none_by_some : (r : Option ℕ) (b t : Bool) → is_some r ≡ not b → is_none r ≡ t → b ≡ t
is_none_by_some r b t e same = none_from_some r b e ∙ same

pub once_by_room : (r : Option ℕ) (a : Name) (names : List Name) (n v : ℕ) → uses a names ≡ n → SomeIff r (n ≤ 1) v → is_some r ≡ is_once names a
once_by_room r a names n v same h = some_left r n v h ∙ ap (λ m. nat_le m 1) (sym same)

-- names that differ, and names that stand once
use_of_itself : (a : Name) → use_of a a ≡ 1
use_of_itself a = ap (λ t. if t then 1 else 0) ((bytes_decides a a).1 refl)

use_of_other : (a b : Name) → a ≢ b → use_of a b ≡ 0
use_of_other a b other = by (bytes_eq b a) refl
  where
    counted : Bool → ℕ
    counted t = if t then 1 else 0

    by : (t : Bool) → bytes_eq b a ≡ t → counted t ≡ 0
    by true e = absurd (other (sym ((bytes_decides b a).0 e)))
    by false e = refl

unused_from_others : (a : Name) (names : List Name) → All (λ b. a ≢ b) names → uses a names ≡ 0
unused_from_others a [] h = refl
unused_from_others a (b ∷ names) h =
    omega (arith, uses-cons a b names, use_of_other a b (All-head (λ c. a ≢ c) b names h), unused_from_others a names (All-tail (λ c. a ≢ c) b names h))

others_from_unused : (a : Name) (names : List Name) → uses a names ≡ 0 → All (λ b. a ≢ b) names
others_from_unused a [] h = All-nil (λ b. a ≢ b)
others_from_unused a (b ∷ names) h =
    All-cons (λ c. a ≢ c) b names
    (λ same. absurd (omega (arith, h, uses-cons a b names, used same)))
    (others_from_unused a names (omega (arith, h, uses-cons a b names)))
  where
    used : a ≡ b → use_of a b ≡ 1
    used same = ap (use_of a) (sym same) ∙ use_of_itself a

pairs_head : (a : Name) (names : List Name) → AllPairs (λ b c. b ≢ c) (a ∷ names) → All (λ c. a ≢ c) names
pairs_head a names h k d below = h 0 (suc k) d (omega arith) (omega (arith, below))

pairs_tail : (a : Name) (names : List Name) → AllPairs (λ b c. b ≢ c) (a ∷ names) → AllPairs (λ b c. b ≢ c) names
pairs_tail a names h i j d less below = h (suc i) (suc j) d (omega (arith, less)) (omega (arith, below))

once_from_pairs : (names : List Name) → AllPairs (λ b c. b ≢ c) names → (a : Name) → uses a names ≤ 1
once_from_pairs [] h a = omega arith
once_from_pairs (b ∷ names) h a = by (bytes_eq b a) refl (once_from_pairs names (pairs_tail b names h) a)
  where
    by : (t : Bool) → bytes_eq b a ≡ t → uses a names ≤ 1 → uses a (b ∷ names) ≤ 1
    by true e rest =
        let same : b ≡ a = (bytes_decides b a).0 e in
        let one : use_of a b ≡ 1 = ap (λ t. if t then 1 else 0) e in
        let none : uses a names ≡ 0 = ap (λ c. uses c names) (sym same) ∙ unused_from_others b names (pairs_head b names h) in
        omega (arith, uses-cons a b names, one, none)
    by false e rest =
        let none : use_of a b ≡ 0 = ap (λ t. if t then 1 else 0) e in
        omega (arith, uses-cons a b names, none, rest)

pairs_from_once : (names : List Name) → All (λ a. uses a names ≤ 1) names → AllPairs (λ b c. b ≢ c) names
pairs_from_once [] h = λ i j d less below. absurd (omega arith)
pairs_from_once (a ∷ names) h =
    AllPairs-cons (λ b c. b ≢ c) a names
    (others_from_unused a names (omega (arith, uses-cons a a names, use_of_itself a, All-head (λ b. uses b (a ∷ names) ≤ 1) a names h)))
    (pairs_from_once names (λ k d below. omega (arith, uses-cons (get_or names k d) a names, All-tail (λ b. uses b (a ∷ names) ≤ 1) a names h k d below)))

at_most_one : (n : ℕ) → nat_le n 1 ≡ true ↔ n ≤ 1
at_most_one n = (λ h. grind (arith, nat_tests), λ h. grind (arith, nat_tests))

pub once_is_pairs : (names : List Name) → IsTrue (list_all (is_once names) names) ↔ AllPairs (λ a b. a ≢ b) names
once_is_pairs names = (
  λ h. pairs_from_once names (λ k d below. (at_most_one (uses (get_or names k d) names)).0 (AllPass-from_list_all (is_once names) names h k d below)),
  λ h. list_all-from_AllPass (is_once names) names (λ k d below. (at_most_one (uses (get_or names k d) names)).1 (once_from_pairs names h (get_or names k d))),
)
