-- No two points of a function are the same: each has a number of its own, its place in the list of points.
use Rattle.std.proofs.Common.{◌≡◌, ℕ, zero, suc, ◌+◌, ◌<◌, List, [], ◌∷◌, ◌++◌, length, map, refl, ap, sym, ◌∙◌, arith, add_assoc, add-zero, zero-add}
use Rattle.std.specs.List.{range_with_len}
use Rattle.std.proofs.lemmas.List.{map-append}
use Rattle.csub_semantics.specs.Points.{PointTree, entry, exit, at, next}
use Rattle.csub_objects.specs.Types.{Name}
use Rattle.csub_semantics.specs.Syntax.{PartTree, StmtTree, StmtTrees, ElseTree, parts, block, conditional, while_loop, do_loop, for_loop, switch_on, case_label, default_label, breaks, continues, goes_to, marked, no_stmt, more_stmts, no_else, else_stmt, FunctionTree}
use Rattle.csub_semantics.specs.Successors as points
use Rattle.csub_semantics.specs.Successors.{Way, Node, Around}
use Rattle.csub_semantics.specs.Flows.{function_nodes, to_exit, goto_of}
use Rattle.flow_graph.specs.Numbers.{count, count_list, count_else, count_parts, count_head, count_function}
use Rattle.flow_graph.proofs.LawsLists.{range-plus}

-- how many points of a statement stand before stage k of part i of the statement at a path
abbrev pub place_parts : List PartTree → ℕ → ℕ → ℕ
place_parts [] i k = k
place_parts (p ∷ rest) zero k = k
place_parts (p ∷ rest) (suc i) k = length p + place_parts rest i k

abbrev mutual
  pub place : StmtTree → List ℕ → ℕ → ℕ → ℕ
  place (parts ps) q i k = place_parts ps i k
  place (block stmts) [] i k = 0
  place (block stmts) (j ∷ q) i k = place_list stmts j q i k
  place (conditional p t e) [] i k = k
  place (conditional p t e) (zero ∷ q) i k = length p + place t q i k
  place (conditional p t e) (suc j ∷ q) i k = length p + count t + place_else e q i k
  place (while_loop p s) [] i k = k
  place (while_loop p s) (j ∷ q) i k = length p + place s q i k
  place (do_loop s p) [] i k = count s + k
  place (do_loop s p) (j ∷ q) i k = place s q i k
  place (for_loop first p third s) [] i k = place_parts (first ++ p ∷ third) i k
  place (for_loop first p third s) (j ∷ q) i k = count_head first p third + place s q i k
  place (switch_on p stmts) [] i k = k
  place (switch_on p stmts) (j ∷ q) i k = length p + place_list stmts j q i k
  place (case_label v) q i k = 0
  place default_label q i k = 0
  place breaks q i k = 0
  place continues q i k = 0
  place (goes_to n p) q i k = k
  place (marked n s) [] i k = 0
  place (marked n s) (j ∷ q) i k = place s q i k

  pub place_list : StmtTrees → ℕ → List ℕ → ℕ → ℕ → ℕ
  place_list no_stmt j q i k = 0
  place_list (more_stmts s rest) zero q i k = place s q i k
  place_list (more_stmts s rest) (suc j) q i k = count s + place_list rest j q i k

  pub place_else : ElseTree → List ℕ → ℕ → ℕ → ℕ
  place_else no_else q i k = 0
  place_else (else_stmt s) q i k = place s q i k

-- the number of a point of a function: the entry has 0, and the exit comes last
abbrev pub number_of : StmtTrees → PointTree → ℕ
number_of body entry = 0
number_of body exit = 1 + count_list body
number_of body (at [] i k) = 0
number_of body (at (j ∷ q) i k) = 1 + place_list body j q i k

one_later : (i k : ℕ) → i + 1 + k ≡ i + suc k
one_later i k = omega arith

-- the stages of parts, one list of them behind another
place_before : (ps qs : List PartTree) (i k : ℕ) → i < length ps → place_parts (ps ++ qs) i k ≡ place_parts ps i k
place_before [] qs i k h = absurd (omega arith)
place_before (p ∷ ps) qs zero k h = refl
place_before (p ∷ ps) qs (suc i) k h = ap (λ n. length p + n) (place_before ps qs i k (omega arith))

place_behind : (ps qs : List PartTree) (i j k : ℕ) → i ≡ length ps + j → place_parts (ps ++ qs) i k ≡ count_parts ps + place_parts qs j k
place_behind [] qs i j k e = let same : i ≡ j = omega arith in ap (λ n. place_parts qs n k) same ∙ sym (zero-add (place_parts qs j k))
place_behind (p ∷ ps) qs zero j k e = absurd (omega arith)
place_behind (p ∷ ps) qs (suc i) j k e = ap (λ n. length p + n) (place_behind ps qs i j k (omega arith)) ∙ sym (add_assoc (length p) (count_parts ps) (place_parts qs j k))

three : (a b c d : ℕ) → a + (b + c + d) ≡ a + b + c + d
three a b c d = omega arith

four : (a b c d e : ℕ) → a + (b + c + d + e) ≡ a + b + c + d + e
four a b c d e = omega arith

four_from : (a b c d : ℕ) → a + (b + (c + d)) ≡ a + b + c + d
four_from a b c d = omega arith

module _ (number : PointTree → ℕ) where
  abbrev pub numbers : List (Node PointTree) → List ℕ
  numbers ns = map (λ n. number n.point) ns

  numbers-append : (xs ys : List (Node PointTree)) → numbers (xs ++ ys) ≡ numbers xs ++ numbers ys
  numbers-append xs ys = map-append (λ n. number n.point) xs ys

  -- two lists of points with rising numbers
  risen : (xs ys : List (Node PointTree)) (a m n : ℕ) → numbers xs ≡ range_with_len a m → numbers ys ≡ range_with_len (a + m) n → numbers (xs ++ ys) ≡ range_with_len a (m + n)
  risen xs ys a m n e g =
      numbers-append xs ys ∙ ap (λ l. l ++ numbers ys) e ∙ ap (λ l. range_with_len a m ++ l) g ∙ sym (range-plus a m n)

  part_places : (p : PartTree) (k : ℕ) (name : ℕ → PointTree) (ways : List (Way PointTree)) (first : ℕ) → ((j : ℕ) → number (name j) ≡ first + j) → numbers (points.part_nodes p k name ways) ≡ range_with_len (first + k) (length p)
  part_places [] k name ways first h = refl
  part_places (s ∷ []) k name ways first h = ap (λ n. n ∷ []) (h k)
  part_places (s ∷ t ∷ rest) k name ways first h =
      ap (λ n. n ∷ numbers (points.part_nodes (t ∷ rest) (k + 1) name ways)) (h k)
      ∙ ap (λ l. (first + k) ∷ l) (part_places (t ∷ rest) (k + 1) name ways first h)
      ∙ ap (λ n. (first + k) ∷ range_with_len n (length (t ∷ rest))) (sym (add_assoc first k 1))

  parts_places : (ps : List PartTree) (i : ℕ) (name : List ℕ → ℕ → ℕ → PointTree) (a : Around PointTree) (first : ℕ) → ((j k : ℕ) → j < length ps → number (name [] (i + j) k) ≡ first + place_parts ps j k) → numbers (points.parts_nodes ps i name a) ≡ range_with_len first (count_parts ps)
  parts_places [] i name a first h = refl
  parts_places (p ∷ rest) i name a first h =
      let ways = points.last_ways p (points.enter_parts rest (i + 1) name a.leave) a.returned in
      let here = λ (k : ℕ). ap (λ j. number (name [] j k)) (sym (add-zero i)) ∙ h 0 k (omega arith) in
      let p_places = part_places p 0 (λ k. name [] i k) ways first here ∙ ap (λ n. range_with_len n (length p)) (add-zero first) in
      let later = λ (j k : ℕ) (l : j < length rest). ap (λ n. number (name [] n k)) (one_later i j) ∙ h (suc j) k (omega arith) ∙ sym (add_assoc first (length p) (place_parts rest j k)) in
      risen (points.part_nodes p 0 (λ k. name [] i k) ways) (points.parts_nodes rest (i + 1) name a) first (length p) (count_parts rest) p_places (parts_places rest (i + 1) name a (first + length p) later)

  mutual
    pub places : (s : StmtTree) (name : List ℕ → ℕ → ℕ → PointTree) (jump : Name → PointTree) (a : Around PointTree) (first : ℕ) → ((q : List ℕ) (i k : ℕ) → number (name q i k) ≡ first + place s q i k) → numbers (points.nodes s name jump a) ≡ range_with_len first (count s)
    places (parts ps) name jump a first h = parts_places ps 0 name a first (λ j k l. ap (λ n. number (name [] n k)) (zero-add j) ∙ h [] j k)
    places (block stmts) name jump a first h = list_places stmts 0 name jump a first (λ j q i k. ap (λ n. number (name (n ∷ q) i k)) (zero-add j) ∙ h (j ∷ q) i k)
    places (conditional p t e) name jump a first h =
        let ways = points.test_ways (points.enter t (λ q. name (0 ∷ q)) a) (points.enter_else e (λ q. name (1 ∷ q)) a) in
        let p_places = part_places p 0 (λ k. name [] 0 k) ways first (λ k. h [] 0 k) ∙ ap (λ n. range_with_len n (length p)) (add-zero first) in
        let in_then = λ (q : List ℕ) (i k : ℕ). h (0 ∷ q) i k ∙ sym (add_assoc first (length p) (place t q i k)) in
        let in_else = λ (q : List ℕ) (i k : ℕ). h (1 ∷ q) i k ∙ three first (length p) (count t) (place_else e q i k) in
        let t_places = places t (λ q. name (0 ∷ q)) jump a (first + length p) in_then in
        let e_places = else_places e (λ q. name (1 ∷ q)) jump a (first + length p + count t) in_else in
        let then = points.nodes t (λ q. name (0 ∷ q)) jump a in
        let other = points.nodes_else e (λ q. name (1 ∷ q)) jump a in
        risen (points.part_nodes p 0 (λ k. name [] 0 k) ways) (then ++ other) first (length p) (count t + count_else e) p_places (risen then other (first + length p) (count t) (count_else e) t_places e_places)
        ∙ ap (range_with_len first) (sym (add_assoc (length p) (count t) (count_else e)))
    places (while_loop p s) name jump a first h =
        let inside = points.in_while p name a in
        let ways = points.test_ways (points.enter s (λ q. name (0 ∷ q)) inside) a.leave in
        let p_places = part_places p 0 (λ k. name [] 0 k) ways first (λ k. h [] 0 k) ∙ ap (λ n. range_with_len n (length p)) (add-zero first) in
        let in_body = λ (q : List ℕ) (i k : ℕ). h (0 ∷ q) i k ∙ sym (add_assoc first (length p) (place s q i k)) in
        risen (points.part_nodes p 0 (λ k. name [] 0 k) ways) (points.nodes s (λ q. name (0 ∷ q)) jump inside) first (length p) (count s) p_places
        (places s (λ q. name (0 ∷ q)) jump inside (first + length p) in_body)
    places (do_loop s p) name jump a first h =
        let inside = points.in_while p name a in
        let ways = points.test_ways (points.enter s (λ q. name (0 ∷ q)) inside) a.leave in
        let here = λ (k : ℕ). h [] 0 k ∙ sym (add_assoc first (count s) k) in
        let p_places = part_places p 0 (λ k. name [] 0 k) ways (first + count s) here ∙ ap (λ n. range_with_len n (length p)) (add-zero (first + count s)) in
        risen (points.nodes s (λ q. name (0 ∷ q)) jump inside) (points.part_nodes p 0 (λ k. name [] 0 k) ways) first (count s) (length p)
        (places s (λ q. name (0 ∷ q)) jump inside first (λ q i k. h (0 ∷ q) i k)) p_places
    places (for_loop begin p third s) name jump a first h =
        let m = length begin in
        let at_test = first + count_parts begin in
        let at_third = at_test + length p in
        let at_body = at_third + count_parts third in
        let back = points.enter_part p m name a.leave in
        let inside = points.in_for begin p third name a in
        let ways = points.test_ways (points.enter s (λ q. name (0 ∷ q)) inside) a.leave in
        let init = points.parts_nodes begin 0 name (points.leaving back a) in
        let test = points.part_nodes p 0 (λ k. name [] m k) ways in
        let step = points.parts_nodes third (m + 1) name (points.leaving back a) in
        let body = points.nodes s (λ q. name (0 ∷ q)) jump inside in
        let in_init = λ (j k : ℕ) (l : j < length begin). ap (λ n. number (name [] n k)) (zero-add j) ∙ h [] j k ∙ ap (λ n. first + n) (place_before begin (p ∷ third) j k l) in
        let in_test = λ (k : ℕ). h [] m k ∙ ap (λ n. first + n) (place_behind begin (p ∷ third) m 0 k (omega arith)) ∙ sym (add_assoc first (count_parts begin) k) in
        let in_step = λ (j k : ℕ) (l : j < length third). h [] (m + 1 + j) k ∙ ap (λ n. first + n) (place_behind begin (p ∷ third) (m + 1 + j) (suc j) k (omega arith)) ∙ four_from first (count_parts begin) (length p) (place_parts third j k) in
        let in_body = λ (q : List ℕ) (i k : ℕ). h (0 ∷ q) i k ∙ four first (count_parts begin) (length p) (count_parts third) (place s q i k) in
        let i_places = parts_places begin 0 name (points.leaving back a) first in_init in
        let p_places = part_places p 0 (λ k. name [] m k) ways at_test in_test ∙ ap (λ n. range_with_len n (length p)) (add-zero at_test) in
        let t_places = parts_places third (m + 1) name (points.leaving back a) at_third in_step in
        let b_places = places s (λ q. name (0 ∷ q)) jump inside at_body in_body in
        risen init (test ++ (step ++ body)) first (count_parts begin) (length p + (count_parts third + count s)) i_places
        (risen test (step ++ body) at_test (length p) (count_parts third + count s) p_places
        (risen step body at_third (count_parts third) (count s) t_places b_places))
        ∙ ap (range_with_len first) (four_from (count_parts begin) (length p) (count_parts third) (count s))
    places (switch_on p stmts) name jump a first h =
        let inside = points.switching a in
        let ways = points.switch_ways stmts name inside in
        let p_places = part_places p 0 (λ k. name [] 0 k) ways first (λ k. h [] 0 k) ∙ ap (λ n. range_with_len n (length p)) (add-zero first) in
        let in_lines = λ (j : ℕ) (q : List ℕ) (i k : ℕ). ap (λ n. number (name (n ∷ q) i k)) (zero-add j) ∙ h (j ∷ q) i k ∙ sym (add_assoc first (length p) (place_list stmts j q i k)) in
        risen (points.part_nodes p 0 (λ k. name [] 0 k) ways) (points.nodes_list stmts 0 name jump inside) first (length p) (count_list stmts) p_places
        (list_places stmts 0 name jump inside (first + length p) in_lines)
    places (case_label v) name jump a first h = refl
    places default_label name jump a first h = refl
    places breaks name jump a first h = refl
    places continues name jump a first h = refl
    places (goes_to n p) name jump a first h =
        part_places p 0 (λ k. name [] 0 k) (points.way next (jump n) ∷ []) first (λ k. h [] 0 k) ∙ ap (λ m. range_with_len m (length p)) (add-zero first)
    places (marked n s) name jump a first h = places s (λ q. name (0 ∷ q)) jump a first (λ q i k. h (0 ∷ q) i k)

    pub list_places : (ss : StmtTrees) (i : ℕ) (name : List ℕ → ℕ → ℕ → PointTree) (jump : Name → PointTree) (a : Around PointTree) (first : ℕ) → ((j : ℕ) (q : List ℕ) (n k : ℕ) → number (name ((i + j) ∷ q) n k) ≡ first + place_list ss j q n k) → numbers (points.nodes_list ss i name jump a) ≡ range_with_len first (count_list ss)
    list_places no_stmt i name jump a first h = refl
    list_places (more_stmts s rest) i name jump a first h =
        let past = points.leaving (points.enter_list rest (i + 1) name a) a in
        let here = λ (q : List ℕ) (n k : ℕ). ap (λ j. number (name (j ∷ q) n k)) (sym (add-zero i)) ∙ h 0 q n k in
        let later = λ (j : ℕ) (q : List ℕ) (n k : ℕ). ap (λ m. number (name (m ∷ q) n k)) (one_later i j) ∙ h (suc j) q n k ∙ sym (add_assoc first (count s) (place_list rest j q n k)) in
        risen (points.nodes s (λ q. name (i ∷ q)) jump past) (points.nodes_list rest (i + 1) name jump a) first (count s) (count_list rest) (places s (λ q. name (i ∷ q)) jump past first here) (list_places rest (i + 1) name jump a (first + count s) later)

    pub else_places : (e : ElseTree) (name : List ℕ → ℕ → ℕ → PointTree) (jump : Name → PointTree) (a : Around PointTree) (first : ℕ) → ((q : List ℕ) (i k : ℕ) → number (name q i k) ≡ first + place_else e q i k) → numbers (points.nodes_else e name jump a) ≡ range_with_len first (count_else e)
    else_places no_else name jump a first h = refl
    else_places (else_stmt s) name jump a first h = places s name jump a first h

pub function_places : (f : FunctionTree) → numbers (number_of f.body) (function_nodes f) ≡ range_with_len 0 (count_function f)
function_places f =
    let number = number_of f.body in
    let inner = points.nodes_list f.body 0 at (goto_of f) to_exit in
    let named = λ (j : ℕ) (q : List ℕ) (n k : ℕ). ap (λ m. number (at (m ∷ q) n k)) (zero-add j) in
    let body = list_places number f.body 0 at (goto_of f) to_exit 1 named in
    let sum : suc (count_list f.body + 1) ≡ count_function f = omega arith in
    ap (λ l. 0 ∷ l) (map-append (λ n. number n.point) inner _ ∙ ap (λ l. l ++ (1 + count_list f.body) ∷ []) body ∙ sym (range-plus 1 (count_list f.body) 1))
    ∙ ap (range_with_len 0) sum
