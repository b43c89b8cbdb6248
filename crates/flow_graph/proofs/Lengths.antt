-- How many points there are, by names and by numbers.
use Rattle.std.proofs.Common.{◌≡◌, List, [], ◌∷◌, ◌++◌, ◌∙◌, suc, arith, refl, ap, ℕ, ◌+◌, length}
use Rattle.std.proofs.lemmas.List.{length-append}
use Rattle.csub_semantics.specs.Labels.{enters, exits}
use Rattle.csub_objects.specs.Types.{Name}
use Rattle.csub_semantics.specs.Syntax.{PartTree, StmtTree, StmtTrees, ElseTree, parts, block, conditional, while_loop, do_loop, for_loop, switch_on, case_label, default_label, breaks, continues, goes_to, marked, no_stmt, more_stmts, no_else, else_stmt, FunctionTree}
use Rattle.csub_semantics.specs.Successors as points
use Rattle.csub_semantics.specs.Flows.{function_nodes, to_exit, goto_of, end_rule}
use Rattle.csub_semantics.specs.Points.{PointTree, entry, exit, at, next}
use Rattle.flow_graph.specs.Numbers.{Numbered, count, count_list, count_else, count_parts, count_head, count_function, enter, enter_list, enter_else, enter_part, enter_parts, part_numbered, parts_numbered, head_numbered, numbered, list_numbered, else_numbered, switch_ways, in_while, in_for, jump_of, function_numbered, by_exit}

ends-length : {A : Type 0} (x y : A) (xs : List A) → length ((x ∷ xs) ++ y ∷ []) ≡ length xs + 2
ends-length x y xs = let l = length-append (x ∷ xs) (y ∷ []) in omega arith

pub part_numbered-length : (p : PartTree) (k first : ℕ) (path : List ℕ) (i : ℕ) (ways : List (points.Way ℕ)) → length (part_numbered p k first path i ways) ≡ length p
part_numbered-length [] k first path i ways = refl
part_numbered-length (s ∷ rest) k first path i ways = ap suc (part_numbered-length rest (k + 1) (first + 1) path i ways)

pub parts_numbered-length : (ps : List PartTree) (i first : ℕ) (path : List ℕ) (a : points.Around ℕ) → length (parts_numbered ps i first path a) ≡ count_parts ps
parts_numbered-length [] i first path a = refl
parts_numbered-length (p ∷ rest) i first path a =
    let ways = points.last_ways p (enter_parts rest (first + length p) a.leave) a.returned in
    length-append (part_numbered p 0 first path i ways) (parts_numbered rest (i + 1) (first + length p) path a)
    ∙ ap (λ n. n + length (parts_numbered rest (i + 1) (first + length p) path a)) (part_numbered-length p 0 first path i ways)
    ∙ ap (λ n. length p + n) (parts_numbered-length rest (i + 1) (first + length p) path a)

head_numbered-length : (begin : List PartTree) (p : PartTree) (third : List PartTree) (first : ℕ) (path : List ℕ) (body : ℕ) (a : points.Around ℕ) → length (head_numbered begin p third first path body a) ≡ count_head begin p third
head_numbered-length begin p third first path body a =
    let m = length begin in
    let at_test = first + count_parts begin in
    let back = points.leaving (enter_part p at_test a.leave) a in
    let test = part_numbered p 0 at_test path m (points.test_ways body a.leave) in
    let step = parts_numbered third (m + 1) (at_test + length p) path back in
    let l1 = length-append (parts_numbered begin 0 first path back) (test ++ step) in
    let l2 = length-append test step in
    let l3 = parts_numbered-length begin 0 first path back in
    let l4 = part_numbered-length p 0 at_test path m (points.test_ways body a.leave) in
    let l5 = parts_numbered-length third (m + 1) (at_test + length p) path back in
    omega (arith, l1, l2, l3, l4, l5)

mutual
  pub numbered-length : (s : StmtTree) (first : ℕ) (path : List ℕ) (jump : Name → ℕ) (a : points.Around ℕ) → length (numbered s first path jump a) ≡ count s
  numbered-length (parts ps) first path jump a = parts_numbered-length ps 0 first path a
  numbered-length (block stmts) first path jump a = list_numbered-length stmts 0 first path jump a
  numbered-length (conditional p t e) first path jump a =
      let ways = points.test_ways (enter t (first + length p) a) (enter_else e (first + length p + count t) a) in
      let then = numbered t (first + length p) (path ++ 0 ∷ []) jump a in
      let other = else_numbered e (first + length p + count t) (path ++ 1 ∷ []) jump a in
      let l1 = length-append (part_numbered p 0 first path 0 ways) (then ++ other) in
      let l2 = length-append then other in
      let l3 = part_numbered-length p 0 first path 0 ways in
      let l4 = numbered-length t (first + length p) (path ++ 0 ∷ []) jump a in
      let l5 = else_numbered-length e (first + length p + count t) (path ++ 1 ∷ []) jump a in
      omega (arith, l1, l2, l3, l4, l5)
  numbered-length (while_loop p s) first path jump a =
      let inside = in_while p first a in
      let ways = points.test_ways (enter s (first + length p) inside) a.leave in
      let body = numbered s (first + length p) (path ++ 0 ∷ []) jump inside in
      let l1 = length-append (part_numbered p 0 first path 0 ways) body in
      let l2 = part_numbered-length p 0 first path 0 ways in
      let l3 = numbered-length s (first + length p) (path ++ 0 ∷ []) jump inside in
      omega (arith, l1, l2, l3)
  numbered-length (do_loop s p) first path jump a =
      let inside = in_while p (first + count s) a in
      let ways = points.test_ways (enter s first inside) a.leave in
      let body = numbered s first (path ++ 0 ∷ []) jump inside in
      let l1 = length-append body (part_numbered p 0 (first + count s) path 0 ways) in
      let l2 = part_numbered-length p 0 (first + count s) path 0 ways in
      let l3 = numbered-length s first (path ++ 0 ∷ []) jump inside in
      omega (arith, l1, l2, l3)
  numbered-length (for_loop begin p third s) first path jump a =
      let at_body = first + count_head begin p third in
      let inside = in_for begin p third first a in
      let l1 = length-append (head_numbered begin p third first path (enter s at_body inside) a) (numbered s at_body (path ++ 0 ∷ []) jump inside) in
      let l2 = head_numbered-length begin p third first path (enter s at_body inside) a in
      let l3 = numbered-length s at_body (path ++ 0 ∷ []) jump inside in
      omega (arith, l1, l2, l3)
  numbered-length (switch_on p stmts) first path jump a =
      let at_lines = first + length p in
      let ways = switch_ways stmts at_lines (points.switching a) in
      let l1 = length-append (part_numbered p 0 first path 0 ways) (list_numbered stmts 0 at_lines path jump (points.switching a)) in
      let l2 = part_numbered-length p 0 first path 0 ways in
      let l3 = list_numbered-length stmts 0 at_lines path jump (points.switching a) in
      omega (arith, l1, l2, l3)
  numbered-length (case_label v) first path jump a = refl
  numbered-length default_label first path jump a = refl
  numbered-length breaks first path jump a = refl
  numbered-length continues first path jump a = refl
  numbered-length (goes_to n p) first path jump a = part_numbered-length p 0 first path 0 (points.way next (jump n) ∷ [])
  numbered-length (marked n s) first path jump a = numbered-length s first (path ++ 0 ∷ []) jump a

  pub list_numbered-length : (ss : StmtTrees) (i first : ℕ) (path : List ℕ) (jump : Name → ℕ) (a : points.Around ℕ) → length (list_numbered ss i first path jump a) ≡ count_list ss
  list_numbered-length no_stmt i first path jump a = refl
  list_numbered-length (more_stmts s rest) i first path jump a =
      let past = points.leaving (enter_list rest (first + count s) a) a in
      let here = numbered s first (path ++ i ∷ []) jump past in
      let later = list_numbered rest (i + 1) (first + count s) path jump a in
      let l1 = length-append here later in
      let l2 = numbered-length s first (path ++ i ∷ []) jump past in
      let l3 = list_numbered-length rest (i + 1) (first + count s) path jump a in
      omega (arith, l1, l2, l3)

  pub else_numbered-length : (e : ElseTree) (first : ℕ) (path : List ℕ) (jump : Name → ℕ) (a : points.Around ℕ) → length (else_numbered e first path jump a) ≡ count_else e
  else_numbered-length no_else first path jump a = refl
  else_numbered-length (else_stmt s) first path jump a = numbered-length s first path jump a

pub function_numbered-length : (f : FunctionTree) (start : ℕ) → length (function_numbered f start) ≡ count_function f
function_numbered-length f start =
    let first : Numbered = record { point = entry; label = enters; span = f.span; ways = points.way next (enter_list f.body (start + 1) (by_exit f start)) ∷ [] } in
    let last : Numbered = record { point = exit; label = exits (end_rule f.name f.result); span = f.span; ways = [] } in
    ends-length first last (list_numbered f.body 0 (start + 1) [] (jump_of f start) (by_exit f start)) ∙ ap (λ n. n + 2) (list_numbered-length f.body 0 (start + 1) [] (jump_of f start) (by_exit f start))

module _ {X : Type 0} where
  pub part_nodes-length : (p : PartTree) (k : ℕ) (name : ℕ → X) (ways : List (points.Way X)) → length (points.part_nodes p k name ways) ≡ length p
  part_nodes-length [] k name ways = refl
  part_nodes-length (s ∷ []) k name ways = refl
  part_nodes-length (s ∷ t ∷ rest) k name ways = ap suc (part_nodes-length (t ∷ rest) (k + 1) name ways)

  pub parts_nodes-length : (ps : List PartTree) (i : ℕ) (name : List ℕ → ℕ → ℕ → X) (a : points.Around X) → length (points.parts_nodes ps i name a) ≡ count_parts ps
  parts_nodes-length [] i name a = refl
  parts_nodes-length (p ∷ rest) i name a =
      let ways = points.last_ways p (points.enter_parts rest (i + 1) name a.leave) a.returned in
      let l1 = length-append (points.part_nodes p 0 (λ k. name [] i k) ways) (points.parts_nodes rest (i + 1) name a) in
      let l2 = part_nodes-length p 0 (λ k. name [] i k) ways in
      let l3 = parts_nodes-length rest (i + 1) name a in
      omega (arith, l1, l2, l3)

  mutual
    pub nodes-length : (s : StmtTree) (name : List ℕ → ℕ → ℕ → X) (jump : Name → X) (a : points.Around X) → length (points.nodes s name jump a) ≡ count s
    nodes-length (parts ps) name jump a = parts_nodes-length ps 0 name a
    nodes-length (block stmts) name jump a = nodes_list-length stmts 0 name jump a
    nodes-length (conditional p t e) name jump a =
        let ways = points.test_ways (points.enter t (λ q. name (0 ∷ q)) a) (points.enter_else e (λ q. name (1 ∷ q)) a) in
        let then = points.nodes t (λ q. name (0 ∷ q)) jump a in
        let other = points.nodes_else e (λ q. name (1 ∷ q)) jump a in
        let l1 = length-append (points.part_nodes p 0 (λ k. name [] 0 k) ways) (then ++ other) in
        let l2 = length-append then other in
        let l3 = part_nodes-length p 0 (λ k. name [] 0 k) ways in
        let l4 = nodes-length t (λ q. name (0 ∷ q)) jump a in
        let l5 = nodes_else-length e (λ q. name (1 ∷ q)) jump a in
        omega (arith, l1, l2, l3, l4, l5)
    nodes-length (while_loop p s) name jump a =
        let inside = points.in_while p name a in
        let ways = points.test_ways (points.enter s (λ q. name (0 ∷ q)) inside) a.leave in
        let body = points.nodes s (λ q. name (0 ∷ q)) jump inside in
        let l1 = length-append (points.part_nodes p 0 (λ k. name [] 0 k) ways) body in
        let l2 = part_nodes-length p 0 (λ k. name [] 0 k) ways in
        let l3 = nodes-length s (λ q. name (0 ∷ q)) jump inside in
        omega (arith, l1, l2, l3)
    nodes-length (do_loop s p) name jump a =
        let inside = points.in_while p name a in
        let ways = points.test_ways (points.enter s (λ q. name (0 ∷ q)) inside) a.leave in
        let body = points.nodes s (λ q. name (0 ∷ q)) jump inside in
        let l1 = length-append body (points.part_nodes p 0 (λ k. name [] 0 k) ways) in
        let l2 = part_nodes-length p 0 (λ k. name [] 0 k) ways in
        let l3 = nodes-length s (λ q. name (0 ∷ q)) jump inside in
        omega (arith, l1, l2, l3)
    nodes-length (for_loop begin p third s) name jump a =
        let m = length begin in
        let back = points.enter_part p m name a.leave in
        let inside = points.in_for begin p third name a in
        let ways = points.test_ways (points.enter s (λ q. name (0 ∷ q)) inside) a.leave in
        let test = points.part_nodes p 0 (λ k. name [] m k) ways in
        let step = points.parts_nodes third (m + 1) name (points.leaving back a) in
        let body = points.nodes s (λ q. name (0 ∷ q)) jump inside in
        let l1 = length-append (points.parts_nodes begin 0 name (points.leaving back a)) (test ++ (step ++ body)) in
        let l2 = length-append test (step ++ body) in
        let l3 = length-append step body in
        let l4 = parts_nodes-length begin 0 name (points.leaving back a) in
        let l5 = part_nodes-length p 0 (λ k. name [] m k) ways in
        let l6 = parts_nodes-length third (m + 1) name (points.leaving back a) in
        let l7 = nodes-length s (λ q. name (0 ∷ q)) jump inside in
        omega (arith, l1, l2, l3, l4, l5, l6, l7)
    nodes-length (switch_on p stmts) name jump a =
        let ways = points.switch_ways stmts name (points.switching a) in
        let l1 = length-append (points.part_nodes p 0 (λ k. name [] 0 k) ways) (points.nodes_list stmts 0 name jump (points.switching a)) in
        let l2 = part_nodes-length p 0 (λ k. name [] 0 k) ways in
        let l3 = nodes_list-length stmts 0 name jump (points.switching a) in
        omega (arith, l1, l2, l3)
    nodes-length (case_label v) name jump a = refl
    nodes-length default_label name jump a = refl
    nodes-length breaks name jump a = refl
    nodes-length continues name jump a = refl
    nodes-length (goes_to n p) name jump a = part_nodes-length p 0 (λ k. name [] 0 k) (points.way next (jump n) ∷ [])
    nodes-length (marked n s) name jump a = nodes-length s (λ q. name (0 ∷ q)) jump a

    pub nodes_list-length : (ss : StmtTrees) (i : ℕ) (name : List ℕ → ℕ → ℕ → X) (jump : Name → X) (a : points.Around X) → length (points.nodes_list ss i name jump a) ≡ count_list ss
    nodes_list-length no_stmt i name jump a = refl
    nodes_list-length (more_stmts s rest) i name jump a =
        let past = points.leaving (points.enter_list rest (i + 1) name a) a in
        let here = points.nodes s (λ q. name (i ∷ q)) jump past in
        let l1 = length-append here (points.nodes_list rest (i + 1) name jump a) in
        let l2 = nodes-length s (λ q. name (i ∷ q)) jump past in
        let l3 = nodes_list-length rest (i + 1) name jump a in
        omega (arith, l1, l2, l3)

    pub nodes_else-length : (e : ElseTree) (name : List ℕ → ℕ → ℕ → X) (jump : Name → X) (a : points.Around X) → length (points.nodes_else e name jump a) ≡ count_else e
    nodes_else-length no_else name jump a = refl
    nodes_else-length (else_stmt s) name jump a = nodes-length s name jump a

pub function_nodes-length : (f : FunctionTree) → length (function_nodes f) ≡ count_function f
function_nodes-length f =
    let first : points.Node PointTree = record { point = entry; label = enters; span = f.span; ways = points.way next (points.enter_list f.body 0 at to_exit) ∷ [] } in
    let last : points.Node PointTree = record { point = exit; label = exits (end_rule f.name f.result); span = f.span; ways = [] } in
    ends-length first last (points.nodes_list f.body 0 at (goto_of f) to_exit) ∙ ap (λ n. n + 2) (nodes_list-length f.body 0 at (goto_of f) to_exit)
