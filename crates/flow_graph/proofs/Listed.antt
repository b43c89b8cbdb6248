-- The points of functions, one function after another.
use Rattle.std.proofs.Common.{◌≡◌, List, [], ◌∷◌, ◌++◌, ◌∙◌, reverse, arith, map, refl, ap, sym, ℕ, ◌+◌, ◌<◌, ◌≤◌, length, get_or, drop, add-one, drop-cons, append_assoc}
use Rattle.std.proofs.lemmas.List.{length-append, length-map, map-append, reverse-append, reverse-reverse}
use Rattle.csub_objects.specs.Types.{Name}
use Rattle.csub_semantics.specs.declared.function.Function.{Function}
use Rattle.csub_semantics.specs.Labels.{enters, exits}
use Rattle.csub_semantics.specs.Points.{entry, exit, next}
use Rattle.csub_semantics.specs.Syntax.{function_tree, FunctionTree, StmtTrees}
use Rattle.csub_semantics.specs.Successors.{Around, way}
use Rattle.csub_semantics.specs.Flows.{end_rule}
use Rattle.flow_graph.specs.declared.node.GraphNode.{GraphNode}
use Rattle.flow_graph.specs.Numbers.{Numbered, numbered_node, NumberedPoint, NumberedFunction, of_function, count_function, count_program, exit_number, enter_list, list_numbered, jump_of, by_exit, function_numbered, program_numbered, functions_numbered}
use Rattle.flow_graph.proofs.Lengths.{function_numbered-length}

pub map-reverse : {A B : Type 0} (f : A → B) (xs : List A) → map f (reverse xs) ≡ reverse (map f xs)
map-reverse f [] = refl
map-reverse f (x ∷ xs) =
    ap (map f) (reverse-append (x ∷ []) xs) ∙ map-append f (reverse xs) (x ∷ []) ∙ ap (λ l. l ++ f x ∷ []) (map-reverse f xs) ∙ sym (reverse-append (f x ∷ []) (map f xs))

-- an exit, a body and an entry that are appended last first
pub turned_round : (first last : Numbered) (body : List Numbered) (nodes : List GraphNode) → map numbered_node nodes ≡ ((last ∷ []) ++ reverse body) ++ first ∷ [] → map numbered_node (reverse nodes) ≡ (first ∷ body) ++ last ∷ []
turned_round first last body nodes h =
    map-reverse numbered_node nodes
    ∙ ap reverse h
    ∙ reverse-append ((last ∷ []) ++ reverse body) (first ∷ [])
    ∙ ap (λ l. first ∷ l) (reverse-append (last ∷ []) (reverse body) ∙ ap (λ l. l ++ last ∷ []) (reverse-reverse body))

abbrev pub entry_node : FunctionTree → ℕ → Numbered
entry_node f enter = record { point = entry; label = enters; span = f.span; ways = way next enter ∷ [] }

abbrev pub exit_node : FunctionTree → Numbered
exit_node f = record { point = exit; label = exits (end_rule f.name f.result); span = f.span; ways = [] }

-- the points of a function's body, which begins behind its entry
pub body_begins : (f : FunctionTree) (body : StmtTrees) (start first enter : ℕ) (a : Around ℕ) → body ≡ f.body → first ≡ start + 1 → a ≡ by_exit f start → enter ≡ enter_list body first a → enter ≡ enter_list f.body (start + 1) (by_exit f start)
body_begins f body start first enter a is_body is_first is_around begins =
    begins ∙ ap (λ b. enter_list b first a) is_body ∙ ap (λ n. enter_list f.body n a) is_first ∙ ap (enter_list f.body (start + 1)) is_around

pub body_made : (f : FunctionTree) (body : StmtTrees) (start first : ℕ) (jump : Name → ℕ) (a : Around ℕ) (old new : List Numbered) → body ≡ f.body → first ≡ start + 1 → jump ≡ jump_of f start → a ≡ by_exit f start → new ≡ old ++ reverse (list_numbered body 0 first [] jump a) → new ≡ old ++ reverse (list_numbered f.body 0 (start + 1) [] (jump_of f start) (by_exit f start))
body_made f body start first jump a old new is_body is_first is_jump is_around emitted =
    emitted
    ∙ ap (λ b. old ++ reverse (list_numbered b 0 first [] jump a)) is_body
    ∙ ap (λ n. old ++ reverse (list_numbered f.body 0 n [] jump a)) is_first
    ∙ ap (λ j. old ++ reverse (list_numbered f.body 0 (start + 1) [] j a)) is_jump
    ∙ ap (λ x. old ++ reverse (list_numbered f.body 0 (start + 1) [] (jump_of f start) x)) is_around

-- the points of a function
pub function_made : (f : FunctionTree) (start enter : ℕ) (nodes : List GraphNode) (old middle : List Numbered) → old ≡ exit_node f ∷ [] → enter ≡ enter_list f.body (start + 1) (by_exit f start) → middle ≡ old ++ reverse (list_numbered f.body 0 (start + 1) [] (jump_of f start) (by_exit f start)) → map numbered_node nodes ≡ middle ++ entry_node f enter ∷ [] → map numbered_node (reverse nodes) ≡ function_numbered f start
function_made f start enter nodes old middle ended begins emitted pushed =
    let lines = list_numbered f.body 0 (start + 1) [] (jump_of f start) (by_exit f start) in
    turned_round (entry_node f (enter_list f.body (start + 1) (by_exit f start))) (exit_node f) lines nodes
    (pushed ∙ ap (λ l. l ++ entry_node f enter ∷ []) (emitted ∙ ap (λ l. l ++ reverse lines) ended) ∙ ap (λ n. ((exit_node f ∷ []) ++ reverse lines) ++ entry_node f n ∷ []) begins)

-- how many points the nodes of a function are
pub nodes_made : (nodes : List GraphNode) (f : _) (start : ℕ) → map numbered_node nodes ≡ function_numbered f start → length nodes ≡ count_function f
nodes_made nodes f start h = sym (length-map nodes numbered_node) ∙ ap length h ∙ function_numbered-length f start

abbrev pub trees_from : List Function → ℕ → List FunctionTree
trees_from fs i = map function_tree (drop i fs)

pub trees_from-step : (fs : List Function) (i : ℕ) (x : Function) → i < length fs → x ≡ get_or fs i x → trees_from fs i ≡ function_tree x ∷ trees_from fs (i + 1)
trees_from-step fs i x h is =
    let step : trees_from fs i ≡ function_tree (get_or fs i x) ∷ trees_from fs (i + 1) = rw (drop-cons fs i x h, add-one) refl in
    step ∙ ap (λ y. function_tree y ∷ trees_from fs (i + 1)) (sym is)

pub count_within : (fs : List Function) (i : ℕ) (x : Function) (n all : ℕ) → i < length fs → x ≡ get_or fs i x → n + count_program (trees_from fs i) ≡ all → n + count_function (function_tree x) ≤ all
count_within fs i x n all h is e =
    let step : count_program (trees_from fs i) ≡ count_function (function_tree x) + count_program (trees_from fs (i + 1)) = ap count_program (trees_from-step fs i x h is) in
    omega arith

-- how many points there are with those of one more function
pub appended_length : {A : Type 0} {B : Type 0} (f : A → B) (old new : List A) (xs : List B) → map f new ≡ map f old ++ xs → length new ≡ length old + length xs
appended_length f old new xs h =
    sym (length-map new f) ∙ ap length h ∙ length-append (map f old) xs ∙ ap (λ n. n + length xs) (length-map old f)

-- the lists of a program after one more function
pub record More (fs : List Function) (i : ℕ) (m : ℕ) (listed : List NumberedFunction) (made : List NumberedPoint) (all_listed : List NumberedFunction) (all_points : List NumberedPoint) (all : ℕ) : Type 0 where
  pub count : m + count_program (trees_from fs (i + 1)) ≡ all
  pub functions : listed ++ functions_numbered (trees_from fs (i + 1)) m ≡ all_listed
  pub points : made ++ program_numbered (trees_from fs (i + 1)) (i + 1) m ≡ all_points

pub more : (fs : List Function) (i : ℕ) (x : Function) (n m : ℕ) (listed listed' : List NumberedFunction) (points points' : List NumberedPoint) (all_listed : List NumberedFunction) (all_points : List NumberedPoint) (all : ℕ) → i < length fs → x ≡ get_or fs i x → m ≡ n + count_function (function_tree x) → n + count_program (trees_from fs i) ≡ all → listed ++ functions_numbered (trees_from fs i) n ≡ all_listed → points ++ program_numbered (trees_from fs i) i n ≡ all_points → listed' ≡ listed ++ record { name = x.name; start = n; exit = exit_number (function_tree x) n } ∷ [] → points' ≡ points ++ map (of_function i) (function_numbered (function_tree x) n) → More fs i m listed' points' all_listed all_points all
more fs i x n m listed listed' points points' all_listed all_points all h is is_m count functions is_points one some =
    let tree = function_tree x in
    let step = trees_from-step fs i x h is in
    let rest = trees_from fs (i + 1) in
    let new : NumberedFunction = record { name = x.name; start = n; exit = exit_number tree n } in
    let counted : count_program (trees_from fs i) ≡ count_function tree + count_program rest = ap count_program step in
    record {
      count = omega arith;
      functions =
          ap (λ l. l ++ functions_numbered rest m) one
          ∙ append_assoc listed (new ∷ []) (functions_numbered rest m)
          ∙ ap (λ k. listed ++ new ∷ functions_numbered rest k) is_m
          ∙ sym (ap (λ t. listed ++ functions_numbered t n) step)
          ∙ functions;
      points =
          ap (λ l. l ++ program_numbered rest (i + 1) m) some
          ∙ append_assoc points (map (of_function i) (function_numbered tree n)) (program_numbered rest (i + 1) m)
          ∙ ap (λ k. points ++ (map (of_function i) (function_numbered tree n) ++ program_numbered rest (i + 1) k)) is_m
          ∙ sym (ap (λ t. points ++ program_numbered t i n) step)
          ∙ is_points;
    }
