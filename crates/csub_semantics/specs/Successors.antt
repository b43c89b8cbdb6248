-- The points of statements and where they lead, by places in the syntax. All is generic in the type X of points: a
-- function `name` names the points inside a statement by path, part and stage.
use Rattle.std.specs.Prelude.{ℕ, ℤ, ◌+◌, List, [], ◌∷◌, ◌++◌, Bool, true, false, Option, Some, None, length, if◌then◌else◌, bytes_eq}
use Rattle.std.specs.Ordering.{int_cmp}
use Rattle.std.specs.BTreeSet.{insert_key}
use Rattle.csub_text.specs.declared.span.Span.{Span}
use Rattle.csub_objects.specs.Types.{Name}
use Rattle.csub_semantics.specs.Labels.{LabelTree, returns, halts}
use Rattle.csub_semantics.specs.Points.{ExitTree, next, on_true, on_false, on_case, on_default}
use Rattle.csub_semantics.specs.Syntax.{PartTree, StmtTree, StmtTrees, ElseTree, parts, block, conditional, while_loop, do_loop, for_loop}
use Rattle.csub_semantics.specs.Syntax.{switch_on, case_label, default_label, breaks, continues, goes_to, marked, no_stmt, more_stmts, no_else, else_stmt}

-- a way out with the point to which it leads
pub record Way (X : Type 0) : Type 0 where
  pub exit : ExitTree
  pub to : X

-- a point: its name, what is done there, the place in the source that is named for it, and its ways out in order
pub record Node (X : Type 0) : Type 0 where
  pub point : X
  pub label : LabelTree
  pub span : Span
  pub ways : List (Way X)

-- where control goes from a statement: past its end, to the end of its function at a return, past the nearest loop or
-- `switch` at a `break`, and to the end of the nearest loop's body at a `continue` (C11 6.8.6)
pub record Around (X : Type 0) : Type 0 where
  pub leave : X
  pub returned : X
  pub broken : X
  pub continued : X

-- a labelled statement: its label's name, and the point at which it begins
pub record Mark (X : Type 0) : Type 0 where
  pub name : Name
  pub to : X

-- the value of a `case` line, and whether a line is a `default`
abbrev pub case_of : StmtTree → Option ℤ
case_of (case_label v) = Some v
case_of s = None

abbrev pub is_default : StmtTree → Bool
is_default default_label = true
is_default s = false

abbrev pub case_list : Option ℤ → List ℤ
case_list None = []
case_list (Some v) = v ∷ []

-- the case values of a `switch`, in the order of its lines
abbrev pub case_values : StmtTrees → List ℤ
case_values no_stmt = []
case_values (more_stmts s rest) = case_list (case_of s) ++ case_values rest

-- numbers in rising order, each once, when more of them are put to some that stand so
abbrev pub rising : List ℤ → List ℤ → List ℤ
rising before [] = before
rising before (v ∷ more) = rising (insert_key int_cmp before v) more

module _ {X : Type 0} where
  abbrev pub way : ExitTree → X → Way X
  way x to = record { exit = x; to = to }

  -- what stands round a statement whose end leads elsewhere
  abbrev pub leaving : X → Around X → Around X
  leaving to around = record around { leave = to }

  -- what stands round the body of a loop: its end, and a `continue`, lead to what comes next in the loop
  abbrev pub looping : X → Around X → Around X
  looping onward around = record { leave = onward; returned = around.returned; broken = around.leave; continued = onward }

  -- what stands round the lines of a `switch`: a `break` leads past it
  abbrev pub switching : Around X → Around X
  switching around = record around { broken = around.leave }

  -- where a part begins: at its first stage, or past it where it has none
  abbrev pub enter_part : PartTree → ℕ → (List ℕ → ℕ → ℕ → X) → X → X
  enter_part [] i name past = past
  enter_part (s ∷ rest) i name past = name [] i 0

  -- where the parts of a statement begin, part i being the first of them
  abbrev pub enter_parts : List PartTree → ℕ → (List ℕ → ℕ → ℕ → X) → X → X
  enter_parts [] i name past = past
  enter_parts (p ∷ rest) i name past = enter_part p i name (enter_parts rest (i + 1) name past)

  -- `enter`: the point at which a statement begins. A block begins with its first line, any other statement with the
  -- first of its points, and one that has none with what its end leads to
  abbrev mutual
    pub enter : StmtTree → (List ℕ → ℕ → ℕ → X) → Around X → X
    enter (parts ps) name around = enter_parts ps 0 name around.leave
    enter (block stmts) name around = enter_list stmts 0 name around
    enter (conditional p t e) name around = enter_part p 0 name around.leave
    enter (while_loop p s) name around = enter_part p 0 name around.leave
    enter (do_loop s p) name around = enter s (λ q. name (0 ∷ q)) (looping (enter_part p 0 name around.leave) around)
    enter (for_loop first p third s) name around = enter_parts first 0 name (enter_part p (length first) name around.leave)
    enter (switch_on p stmts) name around = enter_part p 0 name around.leave
    enter (case_label v) name around = around.leave
    enter default_label name around = around.leave
    enter breaks name around = around.broken
    enter continues name around = around.continued
    enter (goes_to a p) name around = enter_part p 0 name around.leave
    enter (marked a s) name around = enter s (λ q. name (0 ∷ q)) around

    -- the end of a line leads to the next line of its list, and the end of the list to what the list's end leads to
    pub enter_list : StmtTrees → ℕ → (List ℕ → ℕ → ℕ → X) → Around X → X
    enter_list no_stmt i name around = around.leave
    enter_list (more_stmts s rest) i name around =
        enter s (λ q. name (i ∷ q)) (leaving (enter_list rest (i + 1) name around) around)

  abbrev pub enter_else : ElseTree → (List ℕ → ℕ → ℕ → X) → Around X → X
  enter_else no_else name around = around.leave
  enter_else (else_stmt s) name around = enter s name around

  -- the ways out of the own point of a part outside a test: a return leads to the function's end, an end of the run
  -- nowhere, any other past the part
  abbrev pub own_ways : LabelTree → X → X → List (Way X)
  own_ways (returns answer) past returned = way next returned ∷ []
  own_ways (halts e) past returned = []
  own_ways label past returned = way next past ∷ []

  -- the ways out of a test
  abbrev pub test_ways : X → X → List (Way X)
  test_ways when_true when_false = way on_true when_true ∷ way on_false when_false ∷ []

  -- the ways out of a `switch`: each case leads to the lines behind its label, and in all other cases control goes to
  -- those behind `default`, or past the `switch` (C11 6.8.4.2p5)
  abbrev pub case_way : Option ℤ → X → List (Way X)
  case_way None to = []
  case_way (Some v) to = way (on_case v) to ∷ []

  abbrev pub case_ways : StmtTrees → ℕ → (List ℕ → ℕ → ℕ → X) → Around X → List (Way X)
  case_ways no_stmt i name around = []
  case_ways (more_stmts s rest) i name around =
      case_way (case_of s) (enter_list rest (i + 1) name around) ++ case_ways rest (i + 1) name around

  abbrev pub default_to : StmtTrees → ℕ → (List ℕ → ℕ → ℕ → X) → Around X → X
  default_to no_stmt i name around = around.leave
  default_to (more_stmts s rest) i name around =
      if is_default s then enter_list rest (i + 1) name around else default_to rest (i + 1) name around

  abbrev pub switch_ways : StmtTrees → (List ℕ → ℕ → ℕ → X) → Around X → List (Way X)
  switch_ways stmts name around =
      case_ways stmts 0 name around ++ way (on_default (rising [] (case_values stmts))) (default_to stmts 0 name around) ∷ []

  -- what stands round the body of a `while` or `do` of a test, and of a `for`
  abbrev pub in_while : PartTree → (List ℕ → ℕ → ℕ → X) → Around X → Around X
  in_while p name around = looping (enter_part p 0 name around.leave) around

  abbrev pub in_for : List PartTree → PartTree → List PartTree → (List ℕ → ℕ → ℕ → X) → Around X → Around X
  in_for first p third name around =
      let m = length first in looping (enter_parts third (m + 1) name (enter_part p m name around.leave)) around

  -- the labelled statements inside a statement
  abbrev mutual
    pub marks : StmtTree → (List ℕ → ℕ → ℕ → X) → Around X → List (Mark X)
    marks (parts ps) name around = []
    marks (block stmts) name around = marks_list stmts 0 name around
    marks (conditional p t e) name around = marks t (λ q. name (0 ∷ q)) around ++ marks_else e (λ q. name (1 ∷ q)) around
    marks (while_loop p s) name around = marks s (λ q. name (0 ∷ q)) (in_while p name around)
    marks (do_loop s p) name around = marks s (λ q. name (0 ∷ q)) (in_while p name around)
    marks (for_loop first p third s) name around = marks s (λ q. name (0 ∷ q)) (in_for first p third name around)
    marks (switch_on p stmts) name around = marks_list stmts 0 name (switching around)
    marks (case_label v) name around = []
    marks default_label name around = []
    marks breaks name around = []
    marks continues name around = []
    marks (goes_to a p) name around = []
    marks (marked a s) name around =
        record { name = a; to = enter s (λ q. name (0 ∷ q)) around } ∷ marks s (λ q. name (0 ∷ q)) around

    pub marks_list : StmtTrees → ℕ → (List ℕ → ℕ → ℕ → X) → Around X → List (Mark X)
    marks_list no_stmt i name around = []
    marks_list (more_stmts s rest) i name around =
        marks s (λ q. name (i ∷ q)) (leaving (enter_list rest (i + 1) name around) around) ++ marks_list rest (i + 1) name around

    pub marks_else : ElseTree → (List ℕ → ℕ → ℕ → X) → Around X → List (Mark X)
    marks_else no_else name around = []
    marks_else (else_stmt s) name around = marks s name around

  -- where a `goto` of a name leads: to the statement with the label (C11 6.8.6.1p2)
  abbrev pub target : List (Mark X) → X → Name → X
  target [] other a = other
  target (m ∷ rest) other a = if bytes_eq m.name a then m.to else target rest other a

  -- the points of a part from stage k on: each leads to the next, and the last has the given ways out
  abbrev pub part_nodes : PartTree → ℕ → (ℕ → X) → List (Way X) → List (Node X)
  part_nodes [] k name ways = []
  part_nodes (s ∷ []) k name ways = record { point = name k; label = s.label; span = s.span; ways = ways } ∷ []
  part_nodes (s ∷ t ∷ rest) k name ways =
      record { point = name k; label = s.label; span = s.span; ways = way next (name (k + 1)) ∷ [] }
      ∷ part_nodes (t ∷ rest) (k + 1) name ways

  -- the ways out of the last stage of a part outside a test
  abbrev pub last_ways : PartTree → X → X → List (Way X)
  last_ways [] past returned = []
  last_ways (s ∷ []) past returned = own_ways s.label past returned
  last_ways (s ∷ t ∷ rest) past returned = last_ways (t ∷ rest) past returned

  abbrev pub parts_nodes : List PartTree → ℕ → (List ℕ → ℕ → ℕ → X) → Around X → List (Node X)
  parts_nodes [] i name around = []
  parts_nodes (p ∷ rest) i name around =
      let past = enter_parts rest (i + 1) name around.leave in
      part_nodes p 0 (λ k. name [] i k) (last_ways p past around.returned) ++ parts_nodes rest (i + 1) name around

  -- `nodes`: the points of a statement in the order of the text, each with its ways out; `jump` tells where a `goto` leads
  abbrev mutual
    pub nodes : StmtTree → (List ℕ → ℕ → ℕ → X) → (Name → X) → Around X → List (Node X)
    nodes (parts ps) name jump around = parts_nodes ps 0 name around
    nodes (block stmts) name jump around = nodes_list stmts 0 name jump around
    nodes (conditional p t e) name jump around =
        part_nodes p 0 (λ k. name [] 0 k) (test_ways (enter t (λ q. name (0 ∷ q)) around) (enter_else e (λ q. name (1 ∷ q)) around))
        ++ (nodes t (λ q. name (0 ∷ q)) jump around ++ nodes_else e (λ q. name (1 ∷ q)) jump around)
    nodes (while_loop p s) name jump around =
        let inside = in_while p name around in
        part_nodes p 0 (λ k. name [] 0 k) (test_ways (enter s (λ q. name (0 ∷ q)) inside) around.leave)
        ++ nodes s (λ q. name (0 ∷ q)) jump inside
    nodes (do_loop s p) name jump around =
        let inside = in_while p name around in
        nodes s (λ q. name (0 ∷ q)) jump inside
        ++ part_nodes p 0 (λ k. name [] 0 k) (test_ways (enter s (λ q. name (0 ∷ q)) inside) around.leave)
    -- the parts of a `for` are numbered in the order of the text; behind its body comes its third part, and then its test
    nodes (for_loop first p third s) name jump around =
        let m = length first in
        let test = enter_part p m name around.leave in
        let inside = in_for first p third name around in
        parts_nodes first 0 name (leaving test around)
        ++ (part_nodes p 0 (λ k. name [] m k) (test_ways (enter s (λ q. name (0 ∷ q)) inside) around.leave)
        ++ (parts_nodes third (m + 1) name (leaving test around) ++ nodes s (λ q. name (0 ∷ q)) jump inside))
    nodes (switch_on p stmts) name jump around =
        let inside = switching around in
        part_nodes p 0 (λ k. name [] 0 k) (switch_ways stmts name inside) ++ nodes_list stmts 0 name jump inside
    nodes (case_label v) name jump around = []
    nodes default_label name jump around = []
    nodes breaks name jump around = []
    nodes continues name jump around = []
    nodes (goes_to a p) name jump around = part_nodes p 0 (λ k. name [] 0 k) (way next (jump a) ∷ [])
    nodes (marked a s) name jump around = nodes s (λ q. name (0 ∷ q)) jump around

    pub nodes_list : StmtTrees → ℕ → (List ℕ → ℕ → ℕ → X) → (Name → X) → Around X → List (Node X)
    nodes_list no_stmt i name jump around = []
    nodes_list (more_stmts s rest) i name jump around =
        nodes s (λ q. name (i ∷ q)) jump (leaving (enter_list rest (i + 1) name around) around)
        ++ nodes_list rest (i + 1) name jump around

    pub nodes_else : ElseTree → (List ℕ → ℕ → ℕ → X) → (Name → X) → Around X → List (Node X)
    nodes_else no_else name jump around = []
    nodes_else (else_stmt s) name jump around = nodes s name jump around
