-- Temporaries of parts, one after the other.
use Rattle.std.proofs.Common.{◌≡◌, ◌∙◌, sym, ap, arith, ℕ, ◌+◌, ◌<◌, max, List, [], ◌∷◌, ◌++◌, length, map, drop, get_or, Result, Ok, Err, IfOk}
use Rattle.std.proofs.lemmas.List.{drop_more}
use Rattle.csub_validity.specs.Valid.{stage_result}
use Rattle.csub_semantics.specs.declared.function.RStmt.{RStmt}
use Rattle.csub_semantics.specs.Syntax.{PartTree, StmtTree, conditional, do_loop, for_loop, else_stmt, stmt_tree, stmts_of}
use Rattle.csub_resolution.specs.Programs.{some_count, part_temps, most_temps, parts_of, parts_of_all}

pub temps_append : (p q : PartTree) → part_temps (p ++ q) ≡ part_temps p + part_temps q
temps_append [] q = let none : part_temps q ≡ 0 + part_temps q = omega arith in none
temps_append (s ∷ p) q =
    let rest : part_temps (p ++ q) ≡ part_temps p + part_temps q = temps_append p q in
    let n = some_count (stage_result s) in
    let sum : n + part_temps (p ++ q) ≡ (n + part_temps p) + part_temps q = omega arith in
    sum

max_assoc : (a b c : ℕ) → max a (max b c) ≡ max (max a b) c
max_assoc a b c = omega arith

most_append : (ps qs : List PartTree) → most_temps (ps ++ qs) ≡ max (most_temps ps) (most_temps qs)
most_append [] qs = let none : most_temps qs ≡ max 0 (most_temps qs) = omega arith in none
most_append (p ∷ ps) qs =
    ap (λ n. max (part_temps p) n) (most_append ps qs) ∙ max_assoc (part_temps p) (most_temps ps) (most_temps qs)

most_one : (p : PartTree) → most_temps (p ∷ []) ≡ part_temps p
most_one p = let one : max (part_temps p) 0 ≡ part_temps p = omega arith in one

abbrev pub most_of : StmtTree → ℕ
most_of s = most_temps (parts_of s)

pub most_if : (p : PartTree) (t e : StmtTree)
    → most_temps (parts_of (conditional p t (else_stmt e))) ≡ max (part_temps p) (max (most_temps (parts_of t)) (most_temps (parts_of e)))
most_if p t e = ap (λ n. max (part_temps p) n) (most_append (parts_of t) (parts_of e))

pub most_do : (s : StmtTree) (p : PartTree) → most_temps (parts_of (do_loop s p)) ≡ max (most_temps (parts_of s)) (part_temps p)
most_do s p = most_append (parts_of s) (p ∷ []) ∙ ap (λ n. max (most_temps (parts_of s)) n) (most_one p)

pub most_for : (first : List PartTree) (p : PartTree) (third : List PartTree) (s : StmtTree)
    → most_temps (parts_of (for_loop first p third s))
    ≡ max (most_temps first) (max (part_temps p) (max (most_temps third) (most_temps (parts_of s))))
most_for first p third s =
    most_append first (p ∷ third ++ parts_of s)
    ∙ ap (λ n. max (most_temps first) (max (part_temps p) n)) (most_append third (parts_of s))

-- one line more
pub most_more : (ss : List RStmt) (i : ℕ) (s : RStmt) (most one new : ℕ) → i < length ss → s ≡ get_or ss i s
    → one ≡ most_temps (parts_of (stmt_tree s)) → new ≡ max most one
    → max new (most_temps (parts_of_all (stmts_of (map stmt_tree (drop (i + 1) ss)))))
    ≡ max most (most_temps (parts_of_all (stmts_of (map stmt_tree (drop i ss)))))
most_more ss i s most one new l e o n =
    let rest = most_temps (parts_of_all (stmts_of (map stmt_tree (drop (i + 1) ss)))) in
    let this = most_temps (parts_of (stmt_tree s)) in
    let here : drop i ss ≡ s ∷ drop (i + 1) ss = drop_more ss i s l ∙ ap (λ y. y ∷ drop (i + 1) ss) (sym e) in
    let all : most_temps (parts_of_all (stmts_of (map stmt_tree (drop i ss)))) ≡ max this rest =
    ap (λ xs. most_temps (parts_of_all (stmts_of (map stmt_tree xs)))) here
    ∙ most_append (parts_of (stmt_tree s)) (parts_of_all (stmts_of (map stmt_tree (drop (i + 1) ss)))) in
    ap (λ k. max k rest) (n ∙ ap (λ k. max most k) o) ∙ sym (max_assoc most this rest) ∙ ap (λ k. max most k) (sym all)

-- the same number, told otherwise
pub told : {E : Type 0} (r : Result ℕ E) (m n : ℕ) → IfOk r (λ k. k ≡ m) → m ≡ n → IfOk r (λ k. k ≡ n)
told (Ok k) m n h e = h ∙ e
told (Err x) m n h e = tt
