-- The points of a program by their numbers, counted in the order of the text from a first number: what the inner
-- functions of the builder say of themselves. What the whole graph is stands in `Graph`.
use Rattle.std.specs.Prelude.{ℕ, ◌+◌, List, [], ◌∷◌, ◌++◌, map, length, Option, None, Some, if◌then◌else◌}
use Rattle.csub_text.specs.declared.span.Span.{Span}
use Rattle.csub_objects.specs.Types.{Name}
use Rattle.csub_semantics.specs.Labels.{LabelTree, enters, exits, label_tree}
use Rattle.csub_semantics.specs.Points.{PointTree, entry, exit, at, point_tree, exit_tree, next, on_default}
use Rattle.csub_semantics.specs.Syntax.{PartTree, StmtTree, StmtTrees, ElseTree, parts, block, conditional, while_loop, do_loop, for_loop, switch_on}
use Rattle.csub_semantics.specs.Syntax.{case_label, default_label, breaks, continues, goes_to, marked, no_stmt, more_stmts, no_else, else_stmt, FunctionTree}
use Rattle.csub_semantics.specs.Successors.{Way, Around, Mark, way, leaving, looping, switching, last_ways, own_ways, test_ways, case_of, case_way, is_default}
use Rattle.csub_semantics.specs.Successors.{case_values, rising, target}
use Rattle.csub_semantics.specs.Flows.{end_rule}
use Rattle.flow_graph.specs.declared.node.GraphWay.{GraphWay}
use Rattle.flow_graph.specs.declared.node.GraphNode.{GraphNode}
use Rattle.flow_graph.specs.declared.node.GraphPoint.{GraphPoint}
use Rattle.flow_graph.specs.declared.node.GraphFunction.{GraphFunction}
use Rattle.flow_graph.specs.declared.marks.Labelled.{Labelled}
use Rattle.flow_graph.specs.declared.onward.Onward.{Onward}

-- a point with the numbers of the points to which it leads
pub record Numbered : Type 0 where
  pub point : PointTree
  pub label : LabelTree
  pub span : Span
  pub ways : List (Way ℕ)

abbrev pub numbered_way : GraphWay → Way ℕ
numbered_way w = way (exit_tree w.exit) w.to

abbrev pub numbered_node : GraphNode → Numbered
numbered_node n = record {
  point = point_tree n.point;
  label = label_tree n.label;
  span = n.span;
  ways = map numbered_way n.ways.items;
}

-- a labelled statement with the number of the point at which it begins
abbrev pub numbered_mark : Labelled → Mark ℕ
numbered_mark m = record { name = m.name; to = m.to }

-- where control goes from a statement, by numbers
abbrev pub around : Onward → Around ℕ
around onward = record { leave = onward.leave; returned = onward.returned; broken = onward.broken; continued = onward.continued }

-- how many points there are
abbrev pub count_parts : List PartTree → ℕ
count_parts [] = 0
count_parts (p ∷ rest) = length p + count_parts rest

-- those of what stands before the body of a `for`
abbrev pub count_head : List PartTree → PartTree → List PartTree → ℕ
count_head first test third = count_parts first + length test + count_parts third

abbrev mutual
  pub count : StmtTree → ℕ
  count (parts ps) = count_parts ps
  count (block stmts) = count_list stmts
  count (conditional p t e) = length p + count t + count_else e
  count (while_loop p s) = length p + count s
  count (do_loop s p) = count s + length p
  count (for_loop first p third s) = count_head first p third + count s
  count (switch_on p stmts) = length p + count_list stmts
  count (case_label v) = 0
  count default_label = 0
  count breaks = 0
  count continues = 0
  count (goes_to n p) = length p
  count (marked n s) = count s

  pub count_list : StmtTrees → ℕ
  count_list no_stmt = 0
  count_list (more_stmts s rest) = count s + count_list rest

  pub count_else : ElseTree → ℕ
  count_else no_else = 0
  count_else (else_stmt s) = count s

-- the number of the point at which a part begins, its first stage having the number `first`
abbrev pub enter_part : PartTree → ℕ → ℕ → ℕ
enter_part [] first past = past
enter_part (s ∷ rest) first past = first

abbrev pub enter_parts : List PartTree → ℕ → ℕ → ℕ
enter_parts [] first past = past
enter_parts (p ∷ rest) first past = enter_part p first (enter_parts rest (first + length p) past)

-- where what stands before the body of a `for` begins
abbrev pub enter_head : List PartTree → PartTree → ℕ → ℕ → ℕ
enter_head begin test first past = enter_parts begin first (enter_part test (first + count_parts begin) past)

-- the number of the point at which a statement begins
abbrev mutual
  pub enter : StmtTree → ℕ → Around ℕ → ℕ
  enter (parts ps) first a = enter_parts ps first a.leave
  enter (block stmts) first a = enter_list stmts first a
  enter (conditional p t e) first a = enter_part p first a.leave
  enter (while_loop p s) first a = enter_part p first a.leave
  enter (do_loop s p) first a = enter s first (looping (enter_part p (first + count s) a.leave) a)
  enter (for_loop begin p third s) first a = enter_head begin p first a.leave
  enter (switch_on p stmts) first a = enter_part p first a.leave
  enter (case_label v) first a = a.leave
  enter default_label first a = a.leave
  enter breaks first a = a.broken
  enter continues first a = a.continued
  enter (goes_to n p) first a = enter_part p first a.leave
  enter (marked n s) first a = enter s first a

  pub enter_list : StmtTrees → ℕ → Around ℕ → ℕ
  enter_list no_stmt first a = a.leave
  enter_list (more_stmts s rest) first a = enter s first (leaving (enter_list rest (first + count s) a) a)

abbrev pub enter_else : ElseTree → ℕ → Around ℕ → ℕ
enter_else no_else first a = a.leave
enter_else (else_stmt s) first a = enter s first a

-- the ways out of a stage: where another stands behind it they lead there
abbrev pub ways_before : PartTree → ℕ → List (Way ℕ) → List (Way ℕ)
ways_before [] onward ways = ways
ways_before (s ∷ rest) onward ways = way next onward ∷ []

-- the points of part i of the statement at a path, from stage k on
abbrev pub part_numbered : PartTree → ℕ → ℕ → List ℕ → ℕ → List (Way ℕ) → List Numbered
part_numbered [] k first path i ways = []
part_numbered (s ∷ rest) k first path i ways =
    record { point = at path i k; label = s.label; span = s.span; ways = ways_before rest (first + 1) ways }
    ∷ part_numbered rest (k + 1) (first + 1) path i ways

-- the ways out of the last stage of a part outside a test: its own point, or where it has none, its last call
abbrev pub main_ways : Option LabelTree → ℕ → ℕ → List (Way ℕ)
main_ways None past returned = way next past ∷ []
main_ways (Some label) past returned = own_ways label past returned

-- the points of the parts of a statement, from part i on
abbrev pub parts_numbered : List PartTree → ℕ → ℕ → List ℕ → Around ℕ → List Numbered
parts_numbered [] i first path a = []
parts_numbered (p ∷ rest) i first path a =
    part_numbered p 0 first path i (last_ways p (enter_parts rest (first + length p) a.leave) a.returned)
    ++ parts_numbered rest (i + 1) (first + length p) path a

-- the points of what stands before the body of a `for`, the body beginning at the point `body`
abbrev pub head_numbered : List PartTree → PartTree → List PartTree → ℕ → List ℕ → ℕ → Around ℕ → List Numbered
head_numbered begin p third first path body a =
    let m = length begin in
    let at_test = first + count_parts begin in
    let back = leaving (enter_part p at_test a.leave) a in
    parts_numbered begin 0 first path back
    ++ (part_numbered p 0 at_test path m (test_ways body a.leave) ++ parts_numbered third (m + 1) (at_test + length p) path back)

-- the ways out of a `switch`, its lines beginning at the number `first`
abbrev pub case_ways : StmtTrees → ℕ → Around ℕ → List (Way ℕ)
case_ways no_stmt first a = []
case_ways (more_stmts s rest) first a =
    case_way (case_of s) (enter_list rest (first + count s) a) ++ case_ways rest (first + count s) a

abbrev pub default_to : StmtTrees → ℕ → Around ℕ → ℕ
default_to no_stmt first a = a.leave
default_to (more_stmts s rest) first a =
    if is_default s then enter_list rest (first + count s) a else default_to rest (first + count s) a

abbrev pub switch_ways : StmtTrees → ℕ → Around ℕ → List (Way ℕ)
switch_ways stmts first a = case_ways stmts first a ++ way (on_default (rising [] (case_values stmts))) (default_to stmts first a) ∷ []

-- what stands round the body of a `while` or `do` whose test has the number `at_test`, and of a `for`
abbrev pub in_while : PartTree → ℕ → Around ℕ → Around ℕ
in_while p at_test a = looping (enter_part p at_test a.leave) a

abbrev pub in_for : List PartTree → PartTree → List PartTree → ℕ → Around ℕ → Around ℕ
in_for begin p third first a =
    let at_test = first + count_parts begin in looping (enter_parts third (at_test + length p) (enter_part p at_test a.leave)) a

-- the labelled statements inside a statement
abbrev mutual
  pub marks : StmtTree → ℕ → Around ℕ → List (Mark ℕ)
  marks (parts ps) first a = []
  marks (block stmts) first a = marks_list stmts first a
  marks (conditional p t e) first a = marks t (first + length p) a ++ marks_else e (first + length p + count t) a
  marks (while_loop p s) first a = marks s (first + length p) (in_while p first a)
  marks (do_loop s p) first a = marks s first (in_while p (first + count s) a)
  marks (for_loop begin p third s) first a = marks s (first + count_head begin p third) (in_for begin p third first a)
  marks (switch_on p stmts) first a = marks_list stmts (first + length p) (switching a)
  marks (case_label v) first a = []
  marks default_label first a = []
  marks breaks first a = []
  marks continues first a = []
  marks (goes_to n p) first a = []
  marks (marked n s) first a = record { name = n; to = enter s first a } ∷ marks s first a

  pub marks_list : StmtTrees → ℕ → Around ℕ → List (Mark ℕ)
  marks_list no_stmt first a = []
  marks_list (more_stmts s rest) first a =
      marks s first (leaving (enter_list rest (first + count s) a) a) ++ marks_list rest (first + count s) a

  pub marks_else : ElseTree → ℕ → Around ℕ → List (Mark ℕ)
  marks_else no_else first a = []
  marks_else (else_stmt s) first a = marks s first a

-- the points of the statement at a path; `jump` tells where a `goto` leads
abbrev mutual
  pub numbered : StmtTree → ℕ → List ℕ → (Name → ℕ) → Around ℕ → List Numbered
  numbered (parts ps) first path jump a = parts_numbered ps 0 first path a
  numbered (block stmts) first path jump a = list_numbered stmts 0 first path jump a
  numbered (conditional p t e) first path jump a =
      part_numbered p 0 first path 0 (test_ways (enter t (first + length p) a) (enter_else e (first + length p + count t) a))
      ++ (numbered t (first + length p) (path ++ 0 ∷ []) jump a ++ else_numbered e (first + length p + count t) (path ++ 1 ∷ []) jump a)
  numbered (while_loop p s) first path jump a =
      let inside = in_while p first a in
      part_numbered p 0 first path 0 (test_ways (enter s (first + length p) inside) a.leave)
      ++ numbered s (first + length p) (path ++ 0 ∷ []) jump inside
  numbered (do_loop s p) first path jump a =
      let inside = in_while p (first + count s) a in
      numbered s first (path ++ 0 ∷ []) jump inside
      ++ part_numbered p 0 (first + count s) path 0 (test_ways (enter s first inside) a.leave)
  numbered (for_loop begin p third s) first path jump a =
      let at_body = first + count_head begin p third in
      let inside = in_for begin p third first a in
      head_numbered begin p third first path (enter s at_body inside) a ++ numbered s at_body (path ++ 0 ∷ []) jump inside
  numbered (switch_on p stmts) first path jump a =
      let at_lines = first + length p in
      part_numbered p 0 first path 0 (switch_ways stmts at_lines (switching a)) ++ list_numbered stmts 0 at_lines path jump (switching a)
  numbered (case_label v) first path jump a = []
  numbered default_label first path jump a = []
  numbered breaks first path jump a = []
  numbered continues first path jump a = []
  numbered (goes_to n p) first path jump a = part_numbered p 0 first path 0 (way next (jump n) ∷ [])
  numbered (marked n s) first path jump a = numbered s first (path ++ 0 ∷ []) jump a

  -- from line i of the list on
  pub list_numbered : StmtTrees → ℕ → ℕ → List ℕ → (Name → ℕ) → Around ℕ → List Numbered
  list_numbered no_stmt i first path jump a = []
  list_numbered (more_stmts s rest) i first path jump a =
      numbered s first (path ++ i ∷ []) jump (leaving (enter_list rest (first + count s) a) a)
      ++ list_numbered rest (i + 1) (first + count s) path jump a

  pub else_numbered : ElseTree → ℕ → List ℕ → (Name → ℕ) → Around ℕ → List Numbered
  else_numbered no_else first path jump a = []
  else_numbered (else_stmt s) first path jump a = numbered s first path jump a

-- how many points a function has: its entry, those of its body, and its exit
abbrev pub count_function : FunctionTree → ℕ
count_function f = count_list f.body + 2

abbrev pub count_program : List FunctionTree → ℕ
count_program [] = 0
count_program (f ∷ rest) = count_function f + count_program rest

-- the number of a function's exit, its entry having the number `start`
abbrev pub exit_number : FunctionTree → ℕ → ℕ
exit_number f start = start + 1 + count_list f.body

-- all control leads to one point
abbrev pub all_to : ℕ → Around ℕ
all_to n = record { leave = n; returned = n; broken = n; continued = n }

-- control leaves a function by its exit
abbrev pub by_exit : FunctionTree → ℕ → Around ℕ
by_exit f start = all_to (exit_number f start)

-- where a `goto` of a function leads, its entry having the number `start`
abbrev pub jump_of : FunctionTree → ℕ → Name → ℕ
jump_of f start n = target (marks_list f.body (start + 1) (by_exit f start)) (exit_number f start) n

-- the points of a function, its entry having the number `start`
abbrev pub function_numbered : FunctionTree → ℕ → List Numbered
function_numbered f start =
    (record { point = entry; label = enters; span = f.span; ways = way next (enter_list f.body (start + 1) (by_exit f start)) ∷ [] }
    ∷ list_numbered f.body 0 (start + 1) [] (jump_of f start) (by_exit f start))
    ++ record { point = exit; label = exits (end_rule f.name f.result); span = f.span; ways = [] } ∷ []

-- a point with the number of its function
pub record NumberedPoint : Type 0 where
  pub function : ℕ
  pub node : Numbered

abbrev pub numbered_point : GraphPoint → NumberedPoint
numbered_point p = record { function = p.function; node = numbered_node p.node }

abbrev pub of_function : ℕ → Numbered → NumberedPoint
of_function f n = record { function = f; node = n }

-- the points of functions, the first function having the number f and its entry the number `start`
abbrev pub program_numbered : List FunctionTree → ℕ → ℕ → List NumberedPoint
program_numbered [] f start = []
program_numbered (g ∷ rest) f start =
    map (of_function f) (function_numbered g start) ++ program_numbered rest (f + 1) (start + count_function g)

-- a function with the numbers of its entry and its exit
pub record NumberedFunction : Type 0 where
  pub name : Name
  pub start : ℕ
  pub exit : ℕ

abbrev pub functions_numbered : List FunctionTree → ℕ → List NumberedFunction
functions_numbered [] start = []
functions_numbered (g ∷ rest) start =
    record { name = g.name; start = start; exit = exit_number g start } ∷ functions_numbered rest (start + count_function g)

abbrev pub numbered_function : GraphFunction → NumberedFunction
numbered_function g = record { name = g.name; start = g.start; exit = g.exit }
