-- The counts of points and ways out, against the lists of points and edges.
use Rattle.std.proofs.Common.{◌≡◌, ◌∙◌, ℕ, ℤ, ◌+◌, ◌-◌, ◌≤◌, List, [], ◌∷◌, ◌++◌, map, length, length-append, Option, Some, None, refl, ap, sym, subst, arith, sum_by}
use Rattle.std.specs.List.{flat_map}
use Rattle.std.specs.Option.{SomeIff}
use Rattle.std.proofs.lemmas.List.{length-map}
use Rattle.std.proofs.lemmas.List.Sums.{sum_by-cons}
use Rattle.std.proofs.lemmas.List.Concat.{flat_map-append}
use Rattle.std.specs.declared.vec.Vec.{Vec}
use Rattle.std.specs.declared.alloc.Global.{Global}
use Rattle.csub_text.specs.declared.span.Span.{Span}
use Rattle.csub_semantics.specs.declared.function.Function.{Function}
use Rattle.csub_semantics.specs.declared.function.RCall.{RCall}
use Rattle.csub_semantics.specs.declared.function.RPart.{RPart}
use Rattle.csub_semantics.specs.declared.function.RStmt.{RStmt, Block, Switch}
use Rattle.csub_objects.specs.Types.{Name}
use Rattle.csub_semantics.specs.Labels.{LabelTree, exits, returns, halts}
use Rattle.csub_semantics.specs.Syntax.{Stage, PartTree, StmtTree, StmtTrees, ElseTree, parts, block, conditional, while_loop, do_loop, for_loop, switch_on, case_label, default_label, breaks, continues, goes_to, marked, no_stmt, more_stmts, no_else, else_stmt, FunctionTree, call_stage, own_stage, part_tree, function_tree, stmt_tree, stmts_of}
use Rattle.csub_semantics.proofs.LawsRows.{stmt_tree-Block, stmt_tree-Switch}
use Rattle.csub_semantics.specs.Points.{PointTree, exit, at, next, on_default}
use Rattle.csub_semantics.specs.Successors.{Way, way, Node, Around, own_ways, last_ways, part_nodes, parts_nodes, nodes, nodes_list, nodes_else, leaving, switching, in_while, in_for, test_ways, case_of, case_list, case_values, case_way, case_ways, default_to, rising, switch_ways, enter, enter_part, enter_list, enter_else, enter_parts}
use Rattle.csub_semantics.specs.Flows.{function_nodes, to_exit, goto_of, end_rule, placed, edges_from, points_of}
use Rattle.csub_limits.specs.Limits.{edges_of}
use Rattle.csub_limits.specs.Counts.{own_count, end_count, last_count, count, count_list, count_else, count_part, count_stages, count_function}
use Rattle.csub_limits.specs.declared.counts.Measure.{Measure}
use Rattle.csub_limits.specs.declared.counts.Measure.TheVariants.{Points, Edges}

-- what is left of a limit after two counts
pub SomeIff-after : (r : Option ℕ) (a s left inside : ℕ) → a ≤ left → inside ≡ left - a → SomeIff r (s ≤ inside) (inside - s) → SomeIff r (a + s ≤ left) (left - (a + s))
SomeIff-after None a s left inside h e n = λ k. n (omega arith)
SomeIff-after (Some x) a s left inside h e n =
    let below : s ≤ inside = n.0 in let is : x ≡ inside - s = n.1 in (omega arith, omega arith)

pub SomeIff-none : (r : Option ℕ) (a s left v : ℕ) → r ≡ None → (a ≤ left → ⊥) → SomeIff r (a + s ≤ left) v
SomeIff-none None a s left v e n = λ k. n (omega (arith, k))
SomeIff-none (Some x) a s left v e n = absurd (cc)

-- the statements of a list are counted one by one
pub count_list-sum_by : (m : Measure) (ss : List RStmt) → count_list m (stmts_of (map stmt_tree ss)) ≡ sum_by (λ s. count m (stmt_tree s)) ss
count_list-sum_by m [] = refl
count_list-sum_by m (s ∷ ss) =
    ap (λ n. count m (stmt_tree s) + n) (count_list-sum_by m ss) ∙ sym (sum_by-cons (λ t. count m (stmt_tree t)) s ss)

pub count-Block : (m : Measure) (stmts : Vec RStmt Global) → count m (stmt_tree (Block stmts)) ≡ sum_by (λ s. count m (stmt_tree s)) stmts.items
count-Block m stmts = ap (count m) (stmt_tree-Block stmts) ∙ count_list-sum_by m stmts.items

-- the ways out of a `switch`: one for each case, and one beside
abbrev pub way_count : List RStmt → ℕ
way_count ss = length (case_values (stmts_of (map stmt_tree ss))) + 1

pub count-Switch : (m : Measure) (p : RPart) (stmts : Vec RStmt Global) → count m (stmt_tree (Switch p stmts)) ≡ count_stages m (part_tree p) (way_count stmts.items) + sum_by (λ s. count m (stmt_tree s)) stmts.items
count-Switch m p stmts =
    ap (count m) (stmt_tree-Switch p stmts) ∙ ap (λ n. count_stages m (part_tree p) (way_count stmts.items) + n) (count_list-sum_by m stmts.items)

-- the last stage of a part is its own point, where it has one, and else a call
pub last_count-own : (cs : List RCall) (span : Span) (own : Option LabelTree) → end_count own ≡ last_count (map (call_stage span) cs ++ own_stage span own)
last_count-own [] span None = refl
last_count-own [] span (Some label) = refl
last_count-own (c ∷ []) span None = refl
last_count-own (c ∷ []) span (Some label) = refl
last_count-own (c ∷ d ∷ cs) span own = last_count-own (d ∷ cs) span own

module _ {X : Type 0} where
  -- how many ways out points have
  abbrev pub ways_of : List (Node X) → ℕ
  ways_of [] = 0
  ways_of (n ∷ ns) = length n.ways + ways_of ns

  pub ways_of-append : (ms ns : List (Node X)) → ways_of (ms ++ ns) ≡ ways_of ms + ways_of ns
  ways_of-append [] ns = omega arith
  ways_of-append (m ∷ ms) ns = omega (arith, ways_of-append ms ns)

  -- so many points, and so many ways out of them
  pub record HasCounts (ns : List (Node X)) (p w : ℕ) : Type 0 where
    pub points : length ns ≡ p
    pub ways : ways_of ns ≡ w

  pub HasCounts-append : (ms ns : List (Node X)) (p q v w : ℕ) → HasCounts ms p v → HasCounts ns q w → HasCounts (ms ++ ns) (p + q) (v + w)
  HasCounts-append ms ns p q v w h k = record {
    points = omega (arith, length-append ms ns, h.points, k.points);
    ways = omega (arith, ways_of-append ms ns, h.ways, k.ways);
  }

  -- so many points and ways out as are counted of a part whose last stage has these ways out
  counts_of_stages : (p : PartTree) (k : ℕ) (name : ℕ → X) (ws : List (Way X)) → HasCounts (part_nodes p k name ws) (count_stages Points p (length ws)) (count_stages Edges p (length ws))
  counts_of_stages [] k name ws = record { points = refl; ways = refl }
  counts_of_stages (s ∷ []) k name ws = record { points = refl; ways = omega arith }
  counts_of_stages (s ∷ t ∷ p) k name ws =
      let rest = counts_of_stages (t ∷ p) (k + 1) name ws in
      record { points = omega (arith, rest.points); ways = omega (arith, rest.ways) }

  counts_of_ways : (p : PartTree) (n : ℕ) (name : ℕ → X) (ws : List (Way X)) → length ws ≡ n → HasCounts (part_nodes p 0 name ws) (count_stages Points p n) (count_stages Edges p n)
  counts_of_ways p n name ws same = subst (λ m. HasCounts (part_nodes p 0 name ws) (count_stages Points p m) (count_stages Edges p m)) same (counts_of_stages p 0 name ws)

  -- the ways out of a part outside a test
  length-own_ways : (label : LabelTree) (past returned : X) → length (own_ways label past returned) ≡ own_count label
  length-own_ways (returns answer) past returned = refl
  length-own_ways (halts e) past returned = refl
  length-own_ways _ past returned = refl

  length-last_ways : (s : Stage) (p : PartTree) (past returned : X) → length (last_ways (s ∷ p) past returned) ≡ last_count (s ∷ p)
  length-last_ways s [] past returned = length-own_ways s.label past returned
  length-last_ways s (t ∷ p) past returned = length-last_ways t p past returned

  counts_of_part : (p : PartTree) (name : ℕ → X) (past returned : X) → HasCounts (part_nodes p 0 name (last_ways p past returned)) (count_part Points p) (count_part Edges p)
  counts_of_part [] name past returned = record { points = refl; ways = refl }
  counts_of_part (s ∷ p) name past returned =
      counts_of_ways (s ∷ p) (last_count (s ∷ p)) name (last_ways (s ∷ p) past returned) (length-last_ways s p past returned)

  counts_of_test : (p : PartTree) (name : ℕ → X) (when_true when_false : X) → HasCounts (part_nodes p 0 name (test_ways when_true when_false)) (count_stages Points p 2) (count_stages Edges p 2)
  counts_of_test p name when_true when_false = counts_of_stages p 0 name (test_ways when_true when_false)

  -- the ways out of a `switch`
  length-case_way : (o : Option ℤ) (to : X) → length (case_way o to) ≡ length (case_list o)
  length-case_way None to = refl
  length-case_way (Some v) to = refl

  length-case_ways : (stmts : StmtTrees) (i : ℕ) (name : List ℕ → ℕ → ℕ → X) (around : Around X) → length (case_ways stmts i name around) ≡ length (case_values stmts)
  length-case_ways no_stmt i name around = refl
  length-case_ways (more_stmts s rest) i name around =
      let to = enter_list rest (i + 1) name around in
      omega (arith, length-append (case_way (case_of s) to) (case_ways rest (i + 1) name around), length-append (case_list (case_of s)) (case_values rest), length-case_way (case_of s) to, length-case_ways rest (i + 1) name around)

  length-switch_ways : (stmts : StmtTrees) (name : List ℕ → ℕ → ℕ → X) (around : Around X) → length (switch_ways stmts name around) ≡ length (case_values stmts) + 1
  length-switch_ways stmts name around =
      let other = way (on_default (rising [] (case_values stmts))) (default_to stmts 0 name around) in
      omega (arith, length-append (case_ways stmts 0 name around) (other ∷ []), length-case_ways stmts 0 name around)

  counts_of_parts : (ps : List PartTree) (i : ℕ) (name : List ℕ → ℕ → ℕ → X) (around : Around X) → HasCounts (parts_nodes ps i name around) (sum_by (count_part Points) ps) (sum_by (count_part Edges) ps)
  counts_of_parts [] i name around = record { points = refl; ways = refl }
  counts_of_parts (p ∷ ps) i name around =
      let past = enter_parts ps (i + 1) name around.leave in
      let here = counts_of_part p (λ k. name [] i k) past around.returned in
      let rest = counts_of_parts ps (i + 1) name around in
      rw (sum_by-cons (count_part Points) p ps, sum_by-cons (count_part Edges) p ps) (HasCounts-append _ _ _ _ _ _ here rest)

  mutual
    pub counts_of_stmt : (s : StmtTree) (name : List ℕ → ℕ → ℕ → X) (jump : Name → X) (around : Around X) → HasCounts (nodes s name jump around) (count Points s) (count Edges s)
    counts_of_stmt (parts ps) name jump around = counts_of_parts ps 0 name around
    counts_of_stmt (block stmts) name jump around = counts_of_list stmts 0 name jump around
    counts_of_stmt (conditional p t e) name jump around =
        let here = counts_of_test p (λ k. name [] 0 k) (enter t (λ q. name (0 ∷ q)) around) (enter_else e (λ q. name (1 ∷ q)) around) in
        let then' = counts_of_stmt t (λ q. name (0 ∷ q)) jump around in
        let else' = counts_of_else e (λ q. name (1 ∷ q)) jump around in
        HasCounts-append _ _ _ _ _ _ here (HasCounts-append _ _ _ _ _ _ then' else')
    counts_of_stmt (while_loop p s) name jump around =
        let inside = in_while p name around in
        let here = counts_of_test p (λ k. name [] 0 k) (enter s (λ q. name (0 ∷ q)) inside) around.leave in
        HasCounts-append _ _ _ _ _ _ here (counts_of_stmt s (λ q. name (0 ∷ q)) jump inside)
    counts_of_stmt (do_loop s p) name jump around =
        let inside = in_while p name around in
        let here = counts_of_test p (λ k. name [] 0 k) (enter s (λ q. name (0 ∷ q)) inside) around.leave in
        HasCounts-append _ _ _ _ _ _ (counts_of_stmt s (λ q. name (0 ∷ q)) jump inside) here
    counts_of_stmt (for_loop first p third s) name jump around =
        let m = length first in
        let test = enter_part p m name around.leave in
        let inside = in_for first p third name around in
        let begin = counts_of_parts first 0 name (leaving test around) in
        let here = counts_of_test p (λ k. name [] m k) (enter s (λ q. name (0 ∷ q)) inside) around.leave in
        let step = counts_of_parts third (m + 1) name (leaving test around) in
        let body = counts_of_stmt s (λ q. name (0 ∷ q)) jump inside in
        let all = HasCounts-append _ _ _ _ _ _ begin (HasCounts-append _ _ _ _ _ _ here (HasCounts-append _ _ _ _ _ _ step body)) in
        record { points = omega (arith, all.points); ways = omega (arith, all.ways) }
    counts_of_stmt (switch_on p stmts) name jump around =
        let inside = switching around in
        let ways = length (case_values stmts) + 1 in
        let here = counts_of_ways p ways (λ k. name [] 0 k) (switch_ways stmts name inside) (length-switch_ways stmts name inside) in
        HasCounts-append _ _ _ _ _ _ here (counts_of_list stmts 0 name jump inside)
    counts_of_stmt (case_label v) name jump around = record { points = refl; ways = refl }
    counts_of_stmt default_label name jump around = record { points = refl; ways = refl }
    counts_of_stmt breaks name jump around = record { points = refl; ways = refl }
    counts_of_stmt continues name jump around = record { points = refl; ways = refl }
    counts_of_stmt (goes_to a p) name jump around = counts_of_stages p 0 (λ k. name [] 0 k) (way next (jump a) ∷ [])
    counts_of_stmt (marked a s) name jump around = counts_of_stmt s (λ q. name (0 ∷ q)) jump around

    pub counts_of_list : (stmts : StmtTrees) (i : ℕ) (name : List ℕ → ℕ → ℕ → X) (jump : Name → X) (around : Around X) → HasCounts (nodes_list stmts i name jump around) (count_list Points stmts) (count_list Edges stmts)
    counts_of_list no_stmt i name jump around = record { points = refl; ways = refl }
    counts_of_list (more_stmts s rest) i name jump around =
        let here = counts_of_stmt s (λ q. name (i ∷ q)) jump (leaving (enter_list rest (i + 1) name around) around) in
        let others = counts_of_list rest (i + 1) name jump around in
        HasCounts-append _ _ _ _ _ _ here others

    pub counts_of_else : (e : ElseTree) (name : List ℕ → ℕ → ℕ → X) (jump : Name → X) (around : Around X) → HasCounts (nodes_else e name jump around) (count_else Points e) (count_else Edges e)
    counts_of_else no_else name jump around = record { points = refl; ways = refl }
    counts_of_else (else_stmt s) name jump around = counts_of_stmt s name jump around

abbrev last_node : FunctionTree → Node PointTree
last_node f = record { point = exit; label = exits (end_rule f.name f.result); span = f.span; ways = [] }

-- a function's entry has one way out, and its exit none
pub counts_of_function : (f : FunctionTree) → HasCounts (function_nodes f) (count_function Points f) (count_function Edges f)
counts_of_function f =
    let body = counts_of_list f.body 0 at (goto_of f) to_exit in
    record {
      points = omega (arith, body.points, length-append (nodes_list f.body 0 at (goto_of f) to_exit) (last_node f ∷ []));
      ways = omega (arith, body.ways, ways_of-append (nodes_list f.body 0 at (goto_of f) to_exit) (last_node f ∷ []));
    }

length-edges_from : (name : Name) (n : Node PointTree) → length (edges_from (placed name n)) ≡ length n.ways
length-edges_from name n = simp length-map

pub length-edges : (name : Name) (ns : List (Node PointTree)) → length (flat_map edges_from (map (placed name) ns)) ≡ ways_of ns
length-edges name [] = refl
length-edges name (n ∷ ns) =
    omega (arith, length-append (edges_from (placed name n)) (flat_map edges_from (map (placed name) ns)), length-edges_from name n, length-edges name ns)

pub length-points_of : (fs : List Function) → length (points_of (map function_tree fs)) ≡ sum_by (λ f. count_function Points (function_tree f)) fs
length-points_of [] = refl
length-points_of (f ∷ fs) =
    let tree = function_tree f in
    omega (arith, length-append (map (placed tree.name) (function_nodes tree)) (points_of (map function_tree fs)), length-map (function_nodes tree) (placed tree.name), (counts_of_function tree).points, length-points_of fs, sum_by-cons (λ g. count_function Points (function_tree g)) f fs)

pub length-edges_of : (fs : List Function) → length (edges_of (map function_tree fs)) ≡ sum_by (λ f. count_function Edges (function_tree f)) fs
length-edges_of [] = refl
length-edges_of (f ∷ fs) =
    let tree = function_tree f in
    let joined = ap length (flat_map-append edges_from (map (placed tree.name) (function_nodes tree)) (points_of (map function_tree fs))) in
    omega (arith, joined, length-append (flat_map edges_from (map (placed tree.name) (function_nodes tree))) (edges_of (map function_tree fs)), length-edges tree.name (function_nodes tree), (counts_of_function tree).ways, length-edges_of fs, sum_by-cons (λ g. count_function Edges (function_tree g)) f fs)

-- what is taken away of a limit is the count
pub none_counted : (r : Option ℕ) (most n : ℕ) → r ≡ None → SomeIff None (n ≤ most) (most - n) → SomeIff r (n ≤ most) n
none_counted r most n is none = subst (λ o. SomeIff o (n ≤ most) n) (sym is) none

pub counted : (most n room : ℕ) → SomeIff (Some room) (n ≤ most) (most - n) → SomeIff (Some (most - room)) (n ≤ most) n
counted most n room left =
    let few : n ≤ most = left.0 in
    let rest : room ≡ most - n = left.1 in
    (few, omega arith)
