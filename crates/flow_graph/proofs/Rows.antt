-- What a vector of statements, parts or calls stands for from a place on.
use Rattle.std.proofs.Common.{◌≡◌, List, [], ◌∷◌, ◌∙◌, zero, suc, arith, map, refl, ap, sym, ℕ, ◌+◌, ◌-◌, ◌<◌, ◌≤◌, length, get_or, drop, add-one, add-zero, drop-cons}
use Rattle.std.proofs.Math.ListN.{drop_of_length-le}
use Rattle.csub_semantics.specs.declared.function.RStmt.{RStmt}
use Rattle.csub_semantics.specs.declared.function.RPart.{RPart}
use Rattle.csub_semantics.specs.Syntax.{PartTree, StmtTrees, more_stmts, no_stmt, stmt_tree, stmts_of, part_tree}
use Rattle.flow_graph.specs.Numbers.{count, count_parts, count_list, enter_parts}

-- the lines from a place on
abbrev pub lines_from : List RStmt → ℕ → StmtTrees
lines_from ss i = stmts_of (map stmt_tree (drop i ss))

pub lines_from-step : (ss : List RStmt) (i : ℕ) (d : RStmt) → i < length ss → lines_from ss i ≡ more_stmts (stmt_tree (get_or ss i d)) (lines_from ss (i + 1))
lines_from-step ss i d h = rw (drop-cons ss i d h, add-one) refl

pub lines_from-end : (ss : List RStmt) (i : ℕ) → length ss ≤ i → lines_from ss i ≡ no_stmt
lines_from-end ss i h = ap (λ l. stmts_of (map stmt_tree l)) (drop_of_length-le ss h)

-- how many points the lines from a place on have
pub count_left : (ss : List RStmt) (i : ℕ) (d : RStmt) → i < length ss → count_list (lines_from ss i) ≡ count (stmt_tree (get_or ss i d)) + count_list (lines_from ss (i + 1))
count_left ss i d h = ap count_list (lines_from-step ss i d h)

pub count_none : (ss : List RStmt) (i : ℕ) → length ss ≤ i → count_list (lines_from ss i) ≡ 0
count_none ss i h = ap count_list (lines_from-end ss i h)

-- how many points the parts from a place on have
abbrev pub parts_from : List RPart → ℕ → ℕ
parts_from ps i = count_parts (map part_tree (drop i ps))

pub parts_left : (ps : List RPart) (i : ℕ) (d : RPart) → i < length ps → parts_from ps i ≡ length (part_tree (get_or ps i d)) + parts_from ps (i + 1)
parts_left ps i d h = rw (drop-cons ps i d h, add-one) refl

pub parts_none : (ps : List RPart) (i : ℕ) → length ps ≤ i → parts_from ps i ≡ 0
parts_none ps i h = ap (λ l. count_parts (map part_tree l)) (drop_of_length-le ps h)

-- parts begin at the first of their points, and past them where they have none
pub some_parts_enter : (ps : List PartTree) (first past : ℕ) → 0 < count_parts ps → enter_parts ps first past ≡ first
some_parts_enter [] first past h = absurd (omega arith)
some_parts_enter ([] ∷ ps) first past h = some_parts_enter ps (first + 0) past (omega arith) ∙ add-zero first
some_parts_enter ((s ∷ p) ∷ ps) first past h = refl

pub no_parts_enter : (ps : List PartTree) (first past : ℕ) → count_parts ps ≡ 0 → enter_parts ps first past ≡ past
no_parts_enter [] first past e = refl
no_parts_enter ([] ∷ ps) first past e = no_parts_enter ps (first + 0) past (omega arith)
no_parts_enter ((s ∷ p) ∷ ps) first past e = absurd (omega arith)

-- what stands from a place on, by the line there and those from the next place on
pub lines_from-back : (ss : List RStmt) (j i : ℕ) (x : RStmt) → j + 1 ≡ i → j < length ss → x ≡ get_or ss j x → lines_from ss j ≡ more_stmts (stmt_tree x) (lines_from ss i)
lines_from-back ss j i x e h is =
    lines_from-step ss j x h ∙ ap (λ y. more_stmts (stmt_tree y) (lines_from ss (j + 1))) (sym is) ∙ ap (λ k. more_stmts (stmt_tree x) (lines_from ss k)) e

pub parts_from-back : (ps : List RPart) (j i : ℕ) (x : RPart) → j + 1 ≡ i → j < length ps → x ≡ get_or ps j x → map part_tree (drop j ps) ≡ part_tree x ∷ map part_tree (drop i ps)
parts_from-back ps j i x e h is =
    let step : map part_tree (drop j ps) ≡ part_tree (get_or ps j x) ∷ map part_tree (drop (j + 1) ps) = rw (drop-cons ps j x h, add-one) refl in
    step ∙ ap (λ y. part_tree y ∷ map part_tree (drop (j + 1) ps)) (sym is) ∙ ap (λ k. part_tree x ∷ map part_tree (drop k ps)) e

-- no more points are left than there are
pub count_within : (ss : List RStmt) (i : ℕ) → count_list (lines_from ss i) ≤ count_list (stmts_of (map stmt_tree ss))
count_within ss zero = omega arith
count_within [] (suc i) = omega arith
count_within (s ∷ ss) (suc i) = omega (arith, count_within ss i)

pub parts_within : (ps : List RPart) (i : ℕ) → parts_from ps i ≤ count_parts (map part_tree ps)
parts_within ps zero = omega arith
parts_within [] (suc i) = omega arith
parts_within (p ∷ ps) (suc i) = omega (arith, parts_within ps i)

-- there is room in front for the points of the line, and of the part, at a place
pub room_back : (ss : List RStmt) (i first end : ℕ) (x : RStmt) → 0 < i → i ≤ length ss → x ≡ get_or ss (i - 1) x → first + count_list (lines_from ss i) ≡ end → count_list (stmts_of (map stmt_tree ss)) ≤ end → count (stmt_tree x) ≤ first
room_back ss i first end x p h is place room =
    let below : i - 1 < length ss = omega arith in
    let next : i - 1 + 1 ≡ i = omega arith in
    let parts : count_list (lines_from ss (i - 1)) ≡ count (stmt_tree x) + count_list (lines_from ss i) = ap count_list (lines_from-back ss (i - 1) i x next below is) in
    omega (arith, parts, count_within ss (i - 1))

pub part_room : (ps : List RPart) (i first end : ℕ) (x : RPart) → 0 < i → i ≤ length ps → x ≡ get_or ps (i - 1) x → first + parts_from ps i ≡ end → count_parts (map part_tree ps) ≤ end → length (part_tree x) ≤ first
part_room ps i first end x p h is place room =
    let below : i - 1 < length ps = omega arith in
    let next : i - 1 + 1 ≡ i = omega arith in
    let parts : parts_from ps (i - 1) ≡ length (part_tree x) + parts_from ps i = ap count_parts (parts_from-back ps (i - 1) i x next below is) in
    omega (arith, parts, parts_within ps (i - 1))
