-- The points by numbers are the points by places: where each number of a list of points is told to be its point, each
-- way out leads by number to the point to which it leads by name.
use Rattle.std.proofs.Common.{◌≡◌, List, [], ◌∷◌, ◌++◌, ◌∙◌, arith, map, refl, ap, sym, subst, ℕ, ℤ, ◌+◌, length, Bool, true, false, Option, Some, None, append_assoc, append-nil, if◌then◌else◌, bytes_eq}
use Rattle.std.proofs.lemmas.List.{map-append}
use Rattle.csub_objects.specs.Types.{Name}
use Rattle.csub_semantics.specs.Labels.{LabelTree, enters, exits, returns, halts}
use Rattle.csub_semantics.specs.Points.{PointTree, entry, exit, at, next, on_true, on_false, on_case, on_default}
use Rattle.csub_semantics.specs.Syntax.{Stage, PartTree, StmtTree, StmtTrees, ElseTree, parts, block, conditional, while_loop, do_loop, for_loop, switch_on, case_label, default_label, breaks, continues, goes_to, marked, no_stmt, more_stmts, no_else, else_stmt, FunctionTree}
use Rattle.csub_semantics.specs.Successors as points
use Rattle.csub_semantics.specs.Successors.{Way, Node, Around, Mark, way, leaving, switching, own_ways, last_ways, test_ways, case_of, case_way, is_default, case_values, rising, target}
use Rattle.csub_semantics.specs.Flows.{function_nodes, to_exit, goto_of, end_rule}
use Rattle.csub_semantics.specs.Numbers.{Site, site}
use Rattle.flow_graph.specs.Numbers.{Numbered, count, count_parts, count_head, count_list, enter, enter_list, enter_else, enter_part, enter_parts, part_numbered, parts_numbered, numbered, list_numbered, else_numbered, case_ways, default_to, switch_ways, in_while, in_for, marks, marks_list, marks_else, exit_number, by_exit, jump_of, function_numbered}
use Rattle.flow_graph.specs.Graph.{NamedNode, way_of, node_of}
use Rattle.flow_graph.proofs.Lengths.{part_nodes-length, parts_nodes-length, nodes_list-length, nodes-length}

target-append : {X : Type 0} (ks ls : List (Mark X)) (other : X) (n : Name) → target (ks ++ ls) other n ≡ target ks (target ls other n) n
target-append [] ls other n = refl
target-append (k ∷ ks) ls other n = ap (λ x. if bytes_eq k.name n then k.to else x) (target-append ks ls other n)

module _ (at_number : ℕ → Option Site) (f : Name) where
  -- a point with what its numbers are
  abbrev pub way_named : Way ℕ → Way (Option Site)
  way_named w = way w.exit (at_number w.to)

  abbrev pub node_named : Numbered → NamedNode
  node_named n = record { point = n.point; label = n.label; span = n.span; ways = map way_named n.ways }

  -- the numbers from the first on are those of the points
  abbrev pub Held : ℕ → List (Node PointTree) → Type 0
  Held first [] = Unit {0}
  Held first (n ∷ rest) = (at_number first ≡ Some (site f n.point)) × Held (first + 1) rest

  pub Held-left : (first : ℕ) (xs ys : List (Node PointTree)) → Held first (xs ++ ys) → Held first xs
  Held-left first [] ys h = tt
  Held-left first (x ∷ xs) ys h = (h.0, Held-left (first + 1) xs ys h.1)

  pub Held-right : (first n : ℕ) (xs ys : List (Node PointTree)) → length xs ≡ n → Held first (xs ++ ys) → Held (first + n) ys
  Held-right first n [] ys e h = subst (λ k. Held k ys) (omega arith) h
  Held-right first n (x ∷ xs) ys e h =
      let later : first + 1 + length xs ≡ first + n = omega arith in
      subst (λ k. Held k ys) later (Held-right (first + 1) (length xs) xs ys refl h.1)

  -- the same place beyond
  pub record Meets (a : Around ℕ) (b : Around PointTree) : Type 0 where
    pub leave : at_number a.leave ≡ Some (site f b.leave)
    pub returned : at_number a.returned ≡ Some (site f b.returned)
    pub broken : at_number a.broken ≡ Some (site f b.broken)
    pub continued : at_number a.continued ≡ Some (site f b.continued)

  -- the same beginning and the same points
  pub record Same (m : ℕ) (x : PointTree) (ns : List Numbered) (ms : List (Node PointTree)) : Type 0 where
    pub begins : at_number m ≡ Some (site f x)
    pub points : map node_named ns ≡ map (node_of f) ms

  part_head : (s : Stage) (rest : PartTree) (k first : ℕ) (name : ℕ → PointTree) (ways : List (Way PointTree)) → Held first (points.part_nodes (s ∷ rest) k name ways) → at_number first ≡ Some (site f (name k))
  part_head s [] k first name ways h = h.0
  part_head s (t ∷ rest) k first name ways h = h.0

  pub part_same : (p : PartTree) (k first : ℕ) (path : List ℕ) (i : ℕ) (name : ℕ → PointTree) (ways : List (Way ℕ)) (ways' : List (Way PointTree)) → ((k : ℕ) → name k ≡ at path i k) → Held first (points.part_nodes p k name ways') → map way_named ways ≡ map (way_of f) ways' → map node_named (part_numbered p k first path i ways) ≡ map (node_of f) (points.part_nodes p k name ways')
  part_same [] k first path i name ways ways' named h e = refl
  part_same (s ∷ []) k first path i name ways ways' named h e =
      ap (λ x. record { point = x; label = s.label; span = s.span; ways = map way_named ways } ∷ []) (sym (named k))
      ∙ ap (λ w. record { point = name k; label = s.label; span = s.span; ways = w } ∷ []) e
  part_same (s ∷ t ∷ rest) k first path i name ways ways' named h e =
      let later = part_same (t ∷ rest) (k + 1) (first + 1) path i name ways ways' named h.1 e in
      let onward = part_head t rest (k + 1) (first + 1) name ways' h.1 in
      let seen = map node_named (part_numbered (t ∷ rest) (k + 1) (first + 1) path i ways) in
      ap (λ x. record { point = x; label = s.label; span = s.span; ways = way next (at_number (first + 1)) ∷ [] } ∷ seen) (sym (named k))
      ∙ ap (λ w. record { point = name k; label = s.label; span = s.span; ways = way next w ∷ [] } ∷ seen) onward
      ∙ ap (λ l. record { point = name k; label = s.label; span = s.span; ways = way next (Some (site f (name (k + 1)))) ∷ [] } ∷ l) later

  pub enter_part_same : (p : PartTree) (i first past : ℕ) (past' : PointTree) (name : List ℕ → ℕ → ℕ → PointTree) (ways' : List (Way PointTree)) → at_number past ≡ Some (site f past') → Held first (points.part_nodes p 0 (λ k. name [] i k) ways') → at_number (enter_part p first past) ≡ Some (site f (points.enter_part p i name past'))
  enter_part_same [] i first past past' name ways' e h = e
  enter_part_same (s ∷ rest) i first past past' name ways' e h = part_head s rest 0 first (λ k. name [] i k) ways' h

  own_same : (label : LabelTree) (past returned : ℕ) (past' returned' : PointTree) → at_number past ≡ Some (site f past') → at_number returned ≡ Some (site f returned') → map way_named (own_ways label past returned) ≡ map (way_of f) (own_ways label past' returned')
  own_same (returns a) past returned past' returned' e g = ap (λ x. way next x ∷ []) g
  own_same (halts a) past returned past' returned' e g = refl
  own_same _ past returned past' returned' e g = ap (λ x. way next x ∷ []) e

  pub last_same : (p : PartTree) (past returned : ℕ) (past' returned' : PointTree) → at_number past ≡ Some (site f past') → at_number returned ≡ Some (site f returned') → map way_named (last_ways p past returned) ≡ map (way_of f) (last_ways p past' returned')
  last_same [] past returned past' returned' e g = refl
  last_same (s ∷ []) past returned past' returned' e g = own_same s.label past returned past' returned' e g
  last_same (s ∷ t ∷ rest) past returned past' returned' e g = last_same (t ∷ rest) past returned past' returned' e g

  -- two lists of points, one behind the other
  pub joined : (xs ys : List Numbered) (us vs : List (Node PointTree)) → map node_named xs ≡ map (node_of f) us → map node_named ys ≡ map (node_of f) vs → map node_named (xs ++ ys) ≡ map (node_of f) (us ++ vs)
  joined xs ys us vs e g =
      map-append node_named xs ys ∙ ap (λ l. l ++ map node_named ys) e ∙ ap (λ l. map (node_of f) us ++ l) g ∙ sym (map-append (node_of f) us vs)

  pub parts_same : (ps : List PartTree) (i first : ℕ) (path : List ℕ) (name : List ℕ → ℕ → ℕ → PointTree) (a : Around ℕ) (b : Around PointTree) → ((q : List ℕ) (i k : ℕ) → name q i k ≡ at (path ++ q) i k) → Meets a b → Held first (points.parts_nodes ps i name b) → Same (enter_parts ps first a.leave) (points.enter_parts ps i name b.leave) (parts_numbered ps i first path a) (points.parts_nodes ps i name b)
  parts_same [] i first path name a b named m h = record { begins = m.leave; points = refl }
  parts_same (p ∷ rest) i first path name a b named m h =
      let past = enter_parts rest (first + length p) a.leave in
      let past' = points.enter_parts rest (i + 1) name b.leave in
      let ways = last_ways p past a.returned in
      let ways' = last_ways p past' b.returned in
      let here = points.part_nodes p 0 (λ k. name [] i k) ways' in
      let after = points.parts_nodes rest (i + 1) name b in
      let here_held = Held-left first here after h in
      let after_held = Held-right first (length p) here after (part_nodes-length p 0 (λ k. name [] i k) ways') h in
      let later = parts_same rest (i + 1) (first + length p) path name a b named m after_held in
      let named_here = λ (k : ℕ). named [] i k ∙ ap (λ q. at q i k) (append-nil path) in
      record {
        begins = enter_part_same p i first past past' name ways' later.begins here_held;
        points =
            joined (part_numbered p 0 first path i ways) (parts_numbered rest (i + 1) (first + length p) path a) here after
            (part_same p 0 first path i (λ k. name [] i k) ways ways' named_here here_held (last_same p past a.returned past' b.returned later.begins m.returned))
            later.points;
      }

  -- the points of a test
  test_same : (p : PartTree) (first : ℕ) (path : List ℕ) (i : ℕ) (name : List ℕ → ℕ → ℕ → PointTree) (t e : ℕ) (t' e' : PointTree) → ((q : List ℕ) (i k : ℕ) → name q i k ≡ at (path ++ q) i k) → Held first (points.part_nodes p 0 (λ k. name [] i k) (test_ways t' e')) → at_number t ≡ Some (site f t') → at_number e ≡ Some (site f e') → map node_named (part_numbered p 0 first path i (test_ways t e)) ≡ map (node_of f) (points.part_nodes p 0 (λ k. name [] i k) (test_ways t' e'))
  test_same p first path i name t e t' e' named h is_true is_false =
      let named_here = λ (k : ℕ). named [] i k ∙ ap (λ q. at q i k) (append-nil path) in
      part_same p 0 first path i (λ k. name [] i k) (test_ways t e) (test_ways t' e') named_here h
      (ap (λ x. way on_true x ∷ way on_false (at_number e) ∷ []) is_true ∙ ap (λ y. way on_true (Some (site f t')) ∷ way on_false y ∷ []) is_false)

  -- the names inside a statement, one step further down
  deeper : (path : List ℕ) (step : ℕ) (name : List ℕ → ℕ → ℕ → PointTree) → ((q : List ℕ) (i k : ℕ) → name q i k ≡ at (path ++ q) i k) → (q : List ℕ) (i k : ℕ) → name (step ∷ q) i k ≡ at ((path ++ step ∷ []) ++ q) i k
  deeper path step name named q i k = named (step ∷ q) i k ∙ ap (λ r. at r i k) (sym (append_assoc path (step ∷ []) q))

  -- where labelled statements stand, a `goto` leads to the same place
  abbrev pub Lead : List (Mark ℕ) → List (Mark PointTree) → Type 0
  Lead ks ls = (n : Name) (other : ℕ) (other' : PointTree) → at_number other ≡ Some (site f other') → at_number (target ks other n) ≡ Some (site f (target ls other' n))

  none_lead : Lead [] []
  none_lead n other other' e = e

  chosen : (b : Bool) (x y : ℕ) (x' y' : PointTree) → at_number x ≡ Some (site f x') → at_number y ≡ Some (site f y') → at_number (if b then x else y) ≡ Some (site f (if b then x' else y'))
  chosen true x y x' y' e g = e
  chosen false x y x' y' e g = g

  one_leads : (n : Name) (to : ℕ) (to' : PointTree) (ks : List (Mark ℕ)) (ls : List (Mark PointTree)) → at_number to ≡ Some (site f to') → Lead ks ls → Lead (record { name = n; to = to } ∷ ks) (record { name = n; to = to' } ∷ ls)
  one_leads n to to' ks ls e lead = λ a other other' g. chosen (bytes_eq n a) to (target ks other a) to' (target ls other' a) e (lead a other other' g)

  both_lead : (ks ks' : List (Mark ℕ)) (ls ls' : List (Mark PointTree)) → Lead ks ls → Lead ks' ls' → Lead (ks ++ ks') (ls ++ ls')
  both_lead ks ks' ls ls' lead lead' =
      λ a other other' e. ap at_number (target-append ks ks' other a) ∙ lead a (target ks' other a) (target ls' other' a) (lead' a other other' e) ∙ sym (ap (λ x. Some (site f x)) (target-append ls ls' other' a))

  -- the ways out of a `switch`
  case_same : (o : Option ℤ) (x : ℕ) (x' : PointTree) → at_number x ≡ Some (site f x') → map way_named (case_way o x) ≡ map (way_of f) (case_way o x')
  case_same None x x' e = refl
  case_same (Some v) x x' e = ap (λ y. way (on_case v) y ∷ []) e

  ways_joined : (xs ys : List (Way ℕ)) (us vs : List (Way PointTree)) → map way_named xs ≡ map (way_of f) us → map way_named ys ≡ map (way_of f) vs → map way_named (xs ++ ys) ≡ map (way_of f) (us ++ vs)
  ways_joined xs ys us vs e g =
      map-append way_named xs ys ∙ ap (λ l. l ++ map way_named ys) e ∙ ap (λ l. map (way_of f) us ++ l) g ∙ sym (map-append (way_of f) us vs)

  switch_same : (ss : StmtTrees) (first : ℕ) (name : List ℕ → ℕ → ℕ → PointTree) (a : Around ℕ) (b : Around PointTree) → map way_named (case_ways ss first a) ≡ map (way_of f) (points.case_ways ss 0 name b) → at_number (default_to ss first a) ≡ Some (site f (points.default_to ss 0 name b)) → map way_named (switch_ways ss first a) ≡ map (way_of f) (points.switch_ways ss name b)
  switch_same ss first name a b cases other =
      let last = on_default (rising [] (case_values ss)) in
      ways_joined (case_ways ss first a) (way last (default_to ss first a) ∷ []) (points.case_ways ss 0 name b) (way last (points.default_to ss 0 name b) ∷ []) cases (ap (λ x. way last x ∷ []) other)

  module _ (jump : Name → ℕ) (jump' : Name → PointTree) where
    -- a `goto` leads to the same place
    abbrev pub Jumps : Type 0
    Jumps = (n : Name) → at_number (jump n) ≡ Some (site f (jump' n))

    -- the same beginning and labelled statements, and where a `goto` leads to the same place, the same points
    pub record SameStmt (m : ℕ) (x : PointTree) (ks : List (Mark ℕ)) (ls : List (Mark PointTree)) (ns : List Numbered) (ms : List (Node PointTree)) : Type 0 where
      pub begins : at_number m ≡ Some (site f x)
      pub marks : Lead ks ls
      pub points : Jumps → map node_named ns ≡ map (node_of f) ms

    -- the same of lines, and the same ways to them from a `switch`
    pub record SameList (ss : StmtTrees) (i first : ℕ) (path : List ℕ) (name : List ℕ → ℕ → ℕ → PointTree) (a : Around ℕ) (b : Around PointTree) : Type 0 where
      pub begins : at_number (enter_list ss first a) ≡ Some (site f (points.enter_list ss i name b))
      pub cases : map way_named (case_ways ss first a) ≡ map (way_of f) (points.case_ways ss i name b)
      pub other : at_number (default_to ss first a) ≡ Some (site f (points.default_to ss i name b))
      pub marks : Lead (marks_list ss first a) (points.marks_list ss i name b)
      pub points : Jumps → map node_named (list_numbered ss i first path jump a) ≡ map (node_of f) (points.nodes_list ss i name jump' b)

    mutual
      pub same : (s : StmtTree) (first : ℕ) (path : List ℕ) (name : List ℕ → ℕ → ℕ → PointTree) (a : Around ℕ) (b : Around PointTree) → ((q : List ℕ) (i k : ℕ) → name q i k ≡ at (path ++ q) i k) → Meets a b → Held first (points.nodes s name jump' b) → SameStmt (enter s first a) (points.enter s name b) (marks s first a) (points.marks s name b) (numbered s first path jump a) (points.nodes s name jump' b)
      same (parts ps) first path name a b named m h =
          let in_parts = parts_same ps 0 first path name a b named m h in record { begins = in_parts.begins; marks = none_lead; points = λ j. in_parts.points }
      same (block stmts) first path name a b named m h =
          let in_lines = list_same stmts 0 first path name a b named m h in record { begins = in_lines.begins; marks = in_lines.marks; points = in_lines.points }
      same (conditional p t e) first path name a b named m h =
          let begin_then = enter t (first + length p) a in
          let begin_else = enter_else e (first + length p + count t) a in
          let begin_then' = points.enter t (λ q. name (0 ∷ q)) b in
          let begin_else' = points.enter_else e (λ q. name (1 ∷ q)) b in
          let ways = test_ways begin_then begin_else in
          let ways' = test_ways begin_then' begin_else' in
          let test = points.part_nodes p 0 (λ k. name [] 0 k) ways' in
          let when = points.nodes t (λ q. name (0 ∷ q)) jump' b in
          let other = points.nodes_else e (λ q. name (1 ∷ q)) jump' b in
          let test_held = Held-left first test (when ++ other) h in
          let inner_held = Held-right first (length p) test (when ++ other) (part_nodes-length p 0 (λ k. name [] 0 k) ways') h in
          let then_held = Held-left (first + length p) when other inner_held in
          let other_held = Held-right (first + length p) (count t) when other (nodes-length t (λ q. name (0 ∷ q)) jump' b) inner_held in
          let in_then = same t (first + length p) (path ++ 0 ∷ []) (λ q. name (0 ∷ q)) a b (deeper path 0 name named) m then_held in
          let in_else = else_same e (first + length p + count t) (path ++ 1 ∷ []) (λ q. name (1 ∷ q)) a b (deeper path 1 name named) m other_held in
          record {
            begins = enter_part_same p 0 first a.leave b.leave name ways' m.leave test_held;
            marks = both_lead (marks t (first + length p) a) (marks_else e (first + length p + count t) a) (points.marks t (λ q. name (0 ∷ q)) b) (points.marks_else e (λ q. name (1 ∷ q)) b) in_then.marks in_else.marks;
            points =
                λ j. joined (part_numbered p 0 first path 0 ways) (numbered t (first + length p) (path ++ 0 ∷ []) jump a ++ else_numbered e (first + length p + count t) (path ++ 1 ∷ []) jump a) test (when ++ other)
                (test_same p first path 0 name begin_then begin_else begin_then' begin_else' named test_held in_then.begins in_else.begins)
                (joined (numbered t (first + length p) (path ++ 0 ∷ []) jump a) (else_numbered e (first + length p + count t) (path ++ 1 ∷ []) jump a) when other (in_then.points j) (in_else.points j));
          }
      same (while_loop p s) first path name a b named m h =
          let inside = in_while p first a in
          let inside' = points.in_while p name b in
          let again = enter s (first + length p) inside in
          let again' = points.enter s (λ q. name (0 ∷ q)) inside' in
          let test = points.part_nodes p 0 (λ k. name [] 0 k) (test_ways again' b.leave) in
          let body = points.nodes s (λ q. name (0 ∷ q)) jump' inside' in
          let test_held = Held-left first test body h in
          let body_held = Held-right first (length p) test body (part_nodes-length p 0 (λ k. name [] 0 k) (test_ways again' b.leave)) h in
          let begins = enter_part_same p 0 first a.leave b.leave name (test_ways again' b.leave) m.leave test_held in
          let within : Meets inside inside' = record { leave = begins; returned = m.returned; broken = m.leave; continued = begins } in
          let in_body = same s (first + length p) (path ++ 0 ∷ []) (λ q. name (0 ∷ q)) inside inside' (deeper path 0 name named) within body_held in
          record {
            begins = begins;
            marks = in_body.marks;
            points =
                λ j. joined (part_numbered p 0 first path 0 (test_ways again a.leave)) (numbered s (first + length p) (path ++ 0 ∷ []) jump inside) test body
                (test_same p first path 0 name again a.leave again' b.leave named test_held in_body.begins m.leave)
                (in_body.points j);
          }
      same (do_loop s p) first path name a b named m h =
          let inside = in_while p (first + count s) a in
          let inside' = points.in_while p name b in
          let again = enter s first inside in
          let again' = points.enter s (λ q. name (0 ∷ q)) inside' in
          let test = points.part_nodes p 0 (λ k. name [] 0 k) (test_ways again' b.leave) in
          let body = points.nodes s (λ q. name (0 ∷ q)) jump' inside' in
          let body_held = Held-left first body test h in
          let test_held = Held-right first (count s) body test (nodes-length s (λ q. name (0 ∷ q)) jump' inside') h in
          let onward = enter_part_same p 0 (first + count s) a.leave b.leave name (test_ways again' b.leave) m.leave test_held in
          let within : Meets inside inside' = record { leave = onward; returned = m.returned; broken = m.leave; continued = onward } in
          let in_body = same s first (path ++ 0 ∷ []) (λ q. name (0 ∷ q)) inside inside' (deeper path 0 name named) within body_held in
          record {
            begins = in_body.begins;
            marks = in_body.marks;
            points =
                λ j. joined (numbered s first (path ++ 0 ∷ []) jump inside) (part_numbered p 0 (first + count s) path 0 (test_ways again a.leave)) body test
                (in_body.points j)
                (test_same p (first + count s) path 0 name again a.leave again' b.leave named test_held in_body.begins m.leave);
          }
      same (for_loop begin p third s) first path name a b named m h =
          let n = length begin in
          let at_test = first + count_parts begin in
          let at_third = at_test + length p in
          let at_body = first + count_head begin p third in
          let past = leaving (enter_part p at_test a.leave) a in
          let past' = leaving (points.enter_part p n name b.leave) b in
          let inside = in_for begin p third first a in
          let inside' = points.in_for begin p third name b in
          let again = enter s at_body inside in
          let again' = points.enter s (λ q. name (0 ∷ q)) inside' in
          let ways' = test_ways again' b.leave in
          let init = points.parts_nodes begin 0 name past' in
          let test = points.part_nodes p 0 (λ k. name [] n k) ways' in
          let step = points.parts_nodes third (n + 1) name past' in
          let body = points.nodes s (λ q. name (0 ∷ q)) jump' inside' in
          let init_held = Held-left first init (test ++ (step ++ body)) h in
          let later_held = Held-right first (count_parts begin) init (test ++ (step ++ body)) (parts_nodes-length begin 0 name past') h in
          let test_held = Held-left at_test test (step ++ body) later_held in
          let last_held = Held-right at_test (length p) test (step ++ body) (part_nodes-length p 0 (λ k. name [] n k) ways') later_held in
          let step_held = Held-left at_third step body last_held in
          let is_body : at_third + count_parts third ≡ at_body = omega arith in
          let body_held = subst (λ k. Held k body) is_body (Held-right at_third (count_parts third) step body (parts_nodes-length third (n + 1) name past') last_held) in
          let onward = enter_part_same p n at_test a.leave b.leave name ways' m.leave test_held in
          let beyond : Meets past past' = record { leave = onward; returned = m.returned; broken = m.broken; continued = m.continued } in
          let in_init = parts_same begin 0 first path name past past' named beyond init_held in
          let in_step = parts_same third (n + 1) at_third path name past past' named beyond step_held in
          let within : Meets inside inside' = record { leave = in_step.begins; returned = m.returned; broken = m.leave; continued = in_step.begins } in
          let in_body = same s at_body (path ++ 0 ∷ []) (λ q. name (0 ∷ q)) inside inside' (deeper path 0 name named) within body_held in
          let inits = parts_numbered begin 0 first path past in
          let tests = part_numbered p 0 at_test path n (test_ways again a.leave) in
          let steps = parts_numbered third (n + 1) at_third path past in
          let inner = numbered s at_body (path ++ 0 ∷ []) jump inside in
          record {
            begins = in_init.begins;
            marks = in_body.marks;
            points =
                λ j. ap (map node_named) (append_assoc inits (tests ++ steps) inner ∙ ap (λ l. inits ++ l) (append_assoc tests steps inner))
                ∙ joined inits (tests ++ (steps ++ inner)) init (test ++ (step ++ body)) in_init.points
                (joined tests (steps ++ inner) test (step ++ body) (test_same p at_test path n name again a.leave again' b.leave named test_held in_body.begins m.leave)
                (joined steps inner step body in_step.points (in_body.points j)));
          }
      same (switch_on p stmts) first path name a b named m h =
          let at_lines = first + length p in
          let ways = switch_ways stmts at_lines (switching a) in
          let ways' = points.switch_ways stmts name (switching b) in
          let test = points.part_nodes p 0 (λ k. name [] 0 k) ways' in
          let lines = points.nodes_list stmts 0 name jump' (switching b) in
          let test_held = Held-left first test lines h in
          let lines_held = Held-right first (length p) test lines (part_nodes-length p 0 (λ k. name [] 0 k) ways') h in
          let within : Meets (switching a) (switching b) = record { leave = m.leave; returned = m.returned; broken = m.leave; continued = m.continued } in
          let in_lines = list_same stmts 0 at_lines path name (switching a) (switching b) named within lines_held in
          let named_here = λ (k : ℕ). named [] 0 k ∙ ap (λ q. at q 0 k) (append-nil path) in
          record {
            begins = enter_part_same p 0 first a.leave b.leave name ways' m.leave test_held;
            marks = in_lines.marks;
            points =
                λ j. joined (part_numbered p 0 first path 0 ways) (list_numbered stmts 0 at_lines path jump (switching a)) test lines
                (part_same p 0 first path 0 (λ k. name [] 0 k) ways ways' named_here test_held (switch_same stmts at_lines name (switching a) (switching b) in_lines.cases in_lines.other))
                (in_lines.points j);
          }
      same (case_label v) first path name a b named m h = record { begins = m.leave; marks = none_lead; points = λ j. refl }
      same default_label first path name a b named m h = record { begins = m.leave; marks = none_lead; points = λ j. refl }
      same breaks first path name a b named m h = record { begins = m.broken; marks = none_lead; points = λ j. refl }
      same continues first path name a b named m h = record { begins = m.continued; marks = none_lead; points = λ j. refl }
      same (goes_to n p) first path name a b named m h =
          let ways' = way next (jump' n) ∷ [] in
          let named_here = λ (k : ℕ). named [] 0 k ∙ ap (λ q. at q 0 k) (append-nil path) in
          record {
            begins = enter_part_same p 0 first a.leave b.leave name ways' m.leave h;
            marks = none_lead;
            points = λ j. part_same p 0 first path 0 (λ k. name [] 0 k) (way next (jump n) ∷ []) ways' named_here h (ap (λ x. way next x ∷ []) (j n));
          }
      same (marked n s) first path name a b named m h =
          let inner = same s first (path ++ 0 ∷ []) (λ q. name (0 ∷ q)) a b (deeper path 0 name named) m h in
          record {
            begins = inner.begins;
            marks = one_leads n (enter s first a) (points.enter s (λ q. name (0 ∷ q)) b) (marks s first a) (points.marks s (λ q. name (0 ∷ q)) b) inner.begins inner.marks;
            points = inner.points;
          }

      pub list_same : (ss : StmtTrees) (i first : ℕ) (path : List ℕ) (name : List ℕ → ℕ → ℕ → PointTree) (a : Around ℕ) (b : Around PointTree) → ((q : List ℕ) (i k : ℕ) → name q i k ≡ at (path ++ q) i k) → Meets a b → Held first (points.nodes_list ss i name jump' b) → SameList ss i first path name a b
      list_same no_stmt i first path name a b named m h = record { begins = m.leave; cases = refl; other = m.leave; marks = none_lead; points = λ j. refl }
      list_same (more_stmts s rest) i first path name a b named m h =
          let behind = first + count s in
          let past = leaving (enter_list rest behind a) a in
          let past' = leaving (points.enter_list rest (i + 1) name b) b in
          let here = points.nodes s (λ q. name (i ∷ q)) jump' past' in
          let after = points.nodes_list rest (i + 1) name jump' b in
          let here_held = Held-left first here after h in
          let after_held = Held-right first (count s) here after (nodes-length s (λ q. name (i ∷ q)) jump' past') h in
          let later = list_same rest (i + 1) behind path name a b named m after_held in
          let beyond : Meets past past' = record { leave = later.begins; returned = m.returned; broken = m.broken; continued = m.continued } in
          let now = same s first (path ++ i ∷ []) (λ q. name (i ∷ q)) past past' (deeper path i name named) beyond here_held in
          record {
            begins = now.begins;
            cases =
                ways_joined (case_way (case_of s) past.leave) (case_ways rest behind a) (case_way (case_of s) past'.leave) (points.case_ways rest (i + 1) name b)
                (case_same (case_of s) past.leave past'.leave later.begins) later.cases;
            other = chosen (is_default s) past.leave (default_to rest behind a) past'.leave (points.default_to rest (i + 1) name b) later.begins later.other;
            marks = both_lead (marks s first past) (marks_list rest behind a) (points.marks s (λ q. name (i ∷ q)) past') (points.marks_list rest (i + 1) name b) now.marks later.marks;
            points = λ j. joined (numbered s first (path ++ i ∷ []) jump past) (list_numbered rest (i + 1) behind path jump a) here after (now.points j) (later.points j);
          }

      pub else_same : (e : ElseTree) (first : ℕ) (path : List ℕ) (name : List ℕ → ℕ → ℕ → PointTree) (a : Around ℕ) (b : Around PointTree) → ((q : List ℕ) (i k : ℕ) → name q i k ≡ at (path ++ q) i k) → Meets a b → Held first (points.nodes_else e name jump' b) → SameStmt (enter_else e first a) (points.enter_else e name b) (marks_else e first a) (points.marks_else e name b) (else_numbered e first path jump a) (points.nodes_else e name jump' b)
      else_same no_else first path name a b named m h = record { begins = m.leave; marks = none_lead; points = λ j. refl }
      else_same (else_stmt s) first path name a b named m h = same s first path name a b named m h

-- a function, whose entry has the number `first`
pub record SameFunction (at_number : ℕ → Option Site) (f : FunctionTree) (first : ℕ) : Type 0 where
  pub start : at_number first ≡ Some (site f.name entry)
  pub exit : at_number (exit_number f first) ≡ Some (site f.name exit)
  pub points : map (node_named at_number f.name) (function_numbered f first) ≡ map (node_of f.name) (function_nodes f)

pub function_same : (at_number : ℕ → Option Site) (f : FunctionTree) (first : ℕ) → Held at_number f.name first (function_nodes f) → SameFunction at_number f first
function_same at_number f first h =
    let inner = points.nodes_list f.body 0 at (goto_of f) to_exit in
    let last' : Node PointTree = record { point = exit; label = exits (end_rule f.name f.result); span = f.span; ways = [] } in
    let last : Numbered = record { point = exit; label = exits (end_rule f.name f.result); span = f.span; ways = [] } in
    let body_held = Held-left at_number f.name (first + 1) inner (last' ∷ []) h.1 in
    let exit_held = Held-right at_number f.name (first + 1) (count_list f.body) inner (last' ∷ []) (nodes_list-length f.body 0 at (goto_of f) to_exit) h.1 in
    let meets : Meets at_number f.name (by_exit f first) to_exit = record { leave = exit_held.0; returned = exit_held.0; broken = exit_held.0; continued = exit_held.0 } in
    let body = list_same at_number f.name (jump_of f first) (goto_of f) f.body 0 (first + 1) [] at (by_exit f first) to_exit (λ q i k. refl) meets body_held in
    let jumps = λ (n : Name). body.marks n (exit_number f first) exit exit_held.0 in
    let numbers = list_numbered f.body 0 (first + 1) [] (jump_of f first) (by_exit f first) in
    let both = joined at_number f.name numbers (last ∷ []) inner (last' ∷ []) (body.points jumps) refl in
    record {
      start = h.0;
      exit = exit_held.0;
      points =
          ap (λ w. record { point = entry; label = enters; span = f.span; ways = way next w ∷ [] } ∷ map (node_named at_number f.name) (numbers ++ last ∷ [])) body.begins
          ∙ ap (λ l. record { point = entry; label = enters; span = f.span; ways = way next (Some (site f.name (points.enter_list f.body 0 at to_exit))) ∷ [] } ∷ l) both;
    }
