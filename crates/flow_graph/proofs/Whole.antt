-- The lists of a program by numbers are its functions and its points.
use Rattle.std.proofs.Common.{◌≡◌, List, [], ◌∷◌, ◌++◌, ◌∙◌, suc, arith, map, refl, ap, sym, ℕ, ◌+◌, ◌<◌, length, Option, Some, None, All, add_assoc}
use Rattle.std.specs.List.{slice_get, sum_by}
use Rattle.std.specs.Option.{option_map, IsSome}
use Rattle.std.proofs.lemmas.List.{map-append, length-map, length-append}
use Rattle.std.proofs.lemmas.List.Sums.{sum_by-cons}
use Rattle.std.proofs.lemmas.List.Concat.{length-flat_map}
use Rattle.std.proofs.lemmas.List.Elements.{All-nil, All-cons, All-head, All-tail, All-same}
use Rattle.std.proofs.lemmas.Option.{slice_get-map, slice_get_within}
use Rattle.std.proofs.lemmas.Simd.{map-map}
use Rattle.csub_semantics.specs.declared.types.GlobalVar.{GlobalVar}
use Rattle.csub_objects.specs.Types.{Name}
use Rattle.csub_semantics.specs.Types.{global_tree}
use Rattle.csub_semantics.specs.Labels.{label_tree}
use Rattle.csub_semantics.specs.Points.{PointTree, entry, point_tree}
use Rattle.csub_semantics.specs.Syntax.{FunctionTree, ProgramTree}
use Rattle.csub_semantics.specs.Successors.{Node}
use Rattle.csub_semantics.specs.Flows.{function_nodes, PlacedNode, placed, points_of, point_list, edges_from, edge_list}
use Rattle.csub_semantics.specs.Numbers.{Site, site, site_of, site_at, name_at}
use Rattle.csub_core.specs.Valid.{IsValid}
use Rattle.flow_graph.specs.declared.node.GraphPoint.{GraphPoint}
use Rattle.flow_graph.specs.declared.node.GraphFunction.{GraphFunction}
use Rattle.flow_graph.specs.Numbers.{Numbered, NumberedPoint, NumberedFunction, numbered_point, numbered_function, numbered_way, of_function, exit_number, count_function, count_program, function_numbered, program_numbered, functions_numbered}
use Rattle.flow_graph.specs.Graph.{NamedNode, NamedPoint, NamedFunction, way_at, point_at, function_at, way_of, node_of, point_of, function_of, way_count, IsGraphOf, IsClosed}
use Rattle.flow_graph.proofs.Lengths.{function_nodes-length}
use Rattle.flow_graph.proofs.Numbering.{way_named, node_named, Held, function_same}
use Rattle.flow_graph.proofs.LawsLists.{slice_get-left, slice_get-right}

pub held_from : (at_number : ℕ → Option Site) (f : Name) (ns : List (Node PointTree)) (first : ℕ) → ((k : ℕ) (n : Node PointTree) → slice_get ns k ≡ Some n → at_number (first + k) ≡ Some (site f n.point)) → Held at_number f first ns
held_from at_number f [] first h = tt
held_from at_number f (n ∷ ns) first h =
    let here : first ≡ first + 0 = omega arith in
    let later = λ (k : ℕ). let e : first + 1 + k ≡ first + suc k = omega arith in e in
    (ap at_number here ∙ h 0 n refl, held_from at_number f ns (first + 1) (λ k m e. ap at_number (later k) ∙ h (suc k) m e))

module _ (P : ProgramTree) where
  -- a point and a function with what their numbers are
  abbrev pub point_named : NumberedPoint → NamedPoint
  point_named n = record { function = name_at P n.function; node = node_named (site_at P) [] n.node }

  abbrev pub function_named : NumberedFunction → NamedFunction
  function_named n = record { name = n.name; start = site_at P n.start; exit = site_at P n.exit }

  abbrev pub named_as : Option Name → NamedNode → NamedPoint
  named_as f n = record { function = f; node = n }

  -- the same functions and points
  pub record SameProgram (Q : List FunctionTree) (f first : ℕ) : Type 0 where
    pub functions : map function_named (functions_numbered Q first) ≡ map function_of Q
    pub points : map point_named (program_numbered Q f first) ≡ map point_of (points_of Q)

  one_function : (name : Name) (f : ℕ) (xs : List Numbered) (ns : List (Node PointTree)) → name_at P f ≡ Some name → map (node_named (site_at P) name) xs ≡ map (node_of name) ns → map point_named (map (of_function f) xs) ≡ map point_of (map (placed name) ns)
  one_function name f xs ns e g =
      map-map point_named (of_function f) xs
      ∙ sym (map-map (named_as (name_at P f)) (node_named (site_at P) name) xs)
      ∙ ap (λ o. map (named_as o) (map (node_named (site_at P) name) xs)) e
      ∙ ap (map (named_as (Some name))) g
      ∙ map-map (named_as (Some name)) (node_of name) ns
      ∙ sym (map-map point_of (placed name) ns)

  pub program_same : (Q : List FunctionTree) (f first : ℕ) → ((k : ℕ) (g : FunctionTree) → slice_get Q k ≡ Some g → name_at P (f + k) ≡ Some g.name) → ((k : ℕ) (m : PlacedNode) → slice_get (points_of Q) k ≡ Some m → site_at P (first + k) ≡ Some (site_of m)) → SameProgram Q f first
  program_same [] f first names sites = record { functions = refl; points = refl }
  program_same (g ∷ rest) f first names sites =
      let ns = function_nodes g in
      let mine = map (placed g.name) ns in
      let held = held_from (site_at P) g.name ns first (λ k n e. sites k (placed g.name n) (slice_get-left mine (points_of rest) k (placed g.name n) (slice_get-map (placed g.name) ns k ∙ ap (option_map (placed g.name)) e))) in
      let here = function_same (site_at P) g first held in
      let long = length-map ns (placed g.name) ∙ function_nodes-length g in
      let one_on = λ (k : ℕ). let e : f + 1 + k ≡ f + suc k = omega arith in e in
      let later_names = λ (k : ℕ) (h : FunctionTree) (e : slice_get rest k ≡ Some h). ap (name_at P) (one_on k) ∙ names (suc k) h e in
      let later_sites =
      λ (k : ℕ) (m : PlacedNode) (e : slice_get (points_of rest) k ≡ Some m). ap (site_at P) (add_assoc first (count_function g) k) ∙ sites (count_function g + k) m (slice_get-right mine (points_of rest) (count_function g) k (count_function g + k) long refl ∙ e) in
      let later = program_same rest (f + 1) (first + count_function g) later_names later_sites in
      let zero_on : f ≡ f + 0 = omega arith in
      let name = ap (name_at P) zero_on ∙ names 0 g refl in
      let numbers = function_numbered g first in
      record {
        functions =
            ap (λ s. record { name = g.name; start = s; exit = site_at P (exit_number g first) } ∷ map function_named (functions_numbered rest (first + count_function g))) here.start
            ∙ ap (λ s. record { name = g.name; start = Some (site g.name entry); exit = s } ∷ map function_named (functions_numbered rest (first + count_function g))) here.exit
            ∙ ap (λ l. function_of g ∷ l) later.functions;
        points =
            map-append point_named (map (of_function f) numbers) (program_numbered rest (f + 1) (first + count_function g))
            ∙ ap (λ l. l ++ map point_named (program_numbered rest (f + 1) (first + count_function g))) (one_function g.name f numbers ns name here.points)
            ∙ ap (λ l. map point_of mine ++ l) later.points
            ∙ sym (map-append point_of mine (points_of rest));
      }

  -- the points of the code by what they are
  pub points_named : (ps : List GraphPoint) → map (point_at P) ps ≡ map point_named (map numbered_point ps)
  points_named [] = refl
  points_named (p ∷ ps) =
      ap (λ w. named_as (name_at P p.function) (record { point = point_tree p.node.point; label = label_tree p.node.label; span = p.node.span; ways = w }) ∷ map (point_at P) ps) (sym (map-map (way_named (site_at P) []) numbered_way p.node.ways.items))
      ∙ ap (λ l. point_named (numbered_point p) ∷ l) (points_named ps)

  pub functions_named : (fs : List GraphFunction) → map (function_at P) fs ≡ map function_named (map numbered_function fs)
  functions_named fs = sym (map-map function_named numbered_function fs)

-- what is listed for a valid program is its graph
pub is_graph : (P : ProgramTree) (fs : List GraphFunction) (ps : List GraphPoint) (gs : List GlobalVar) → IsValid P → map numbered_function fs ≡ functions_numbered P.functions 0 → map numbered_point ps ≡ program_numbered P.functions 0 0 → map global_tree gs ≡ P.globals → IsGraphOf (fs, ps, gs) P
is_graph P fs ps gs valid e g globals =
    let none_before = λ (k : ℕ). let e : 0 + k ≡ k = omega arith in e in
    let same = program_same P P.functions 0 0 (λ k h e. ap (name_at P) (none_before k) ∙ ap (option_map (λ (g : FunctionTree). g.name)) e) (λ k m e. ap (site_at P) (none_before k) ∙ ap (option_map site_of) e) in
    record {
      valid = valid;
      functions = functions_named P fs ∙ ap (map (function_named P)) e ∙ same.functions;
      points = points_named P ps ∙ ap (map (point_named P)) g ∙ same.points;
      globals = globals;
    }

sum_by-map : {A : Type 0} {B : Type 0} (f : A → B) (g : B → ℕ) (h : A → ℕ) → ((x : A) → h x ≡ g (f x)) → (xs : List A) → sum_by h xs ≡ sum_by g (map f xs)
sum_by-map f g h e [] = refl
sum_by-map f g h e (x ∷ xs) =
    sum_by-cons h x xs ∙ ap (λ n. n + sum_by h xs) (e x) ∙ ap (λ n. g (f x) + n) (sum_by-map f g h e xs) ∙ sym (sum_by-cons g (f x) (map f xs))

abbrev ways_named : NamedPoint → ℕ
ways_named n = length n.node.ways

-- as many edges as the program has
pub edges_listed : (P : ProgramTree) (ps : List GraphPoint) → map (point_at P) ps ≡ map point_of (point_list P) → sum_by way_count ps ≡ length (edge_list P)
edges_listed P ps e =
    sum_by-map (point_at P) ways_named way_count (λ p. sym (length-map p.node.ways.items (way_at P))) ps
    ∙ ap (sum_by ways_named) e
    ∙ sym (sum_by-map point_of ways_named (λ m. length (edges_from m)) (λ m. length-map m.node.ways _ ∙ sym (length-map m.node.ways (way_of m.function))) (point_list P))
    ∙ sym (length-flat_map edges_from (point_list P))

-- a number that is that of something is small enough
pub within_points : (P : ProgramTree) (n : ℕ) → IsSome (site_at P n) → n < length (point_list P)
within_points P n h = some_within (slice_get (point_list P) n) refl h
  where
    some_within : (o : Option PlacedNode) → slice_get (point_list P) n ≡ o → IsSome (option_map site_of o) → n < length (point_list P)
    some_within None e h = absurd cc
    some_within (Some m) e h = slice_get_within (point_list P) n m e

pub within_functions : (P : ProgramTree) (n : ℕ) → IsSome (name_at P n) → n < length P.functions
within_functions P n h = some_within (slice_get P.functions n) refl h
  where
    some_within : (o : Option FunctionTree) → slice_get P.functions n ≡ o → IsSome (option_map (λ (g : FunctionTree). g.name) o) → n < length P.functions
    some_within None e h = absurd cc
    some_within (Some m) e h = slice_get_within P.functions n m e

abbrev HasPlaces : NamedFunction → Type 0
HasPlaces f = IsSome f.start × IsSome f.exit

abbrev HasFunction : NamedPoint → Type 0
HasFunction p = IsSome p.function

abbrev LeadsOn : NamedPoint → Type 0
LeadsOn p = All (λ w. IsSome w.to) p.node.ways

-- what holds of each of a list holds of what is made of it
unmapped : {A : Type 0} {B : Type 0} (f : A → B) (P : B → Type 0) (Q : A → Type 0) → ((x : A) → P (f x) → Q x) → (xs : List A) → All P (map f xs) → All Q xs
unmapped f P Q h [] a = All-nil Q
unmapped f P Q h (x ∷ xs) a = All-cons Q x xs (h x (All-head P (f x) (map f xs) a)) (unmapped f P Q h xs (All-tail P (f x) (map f xs) a))

mapped : {A : Type 0} {B : Type 0} (f : A → B) (P : B → Type 0) → ((x : A) → P (f x)) → (xs : List A) → All P (map f xs)
mapped f P h [] = All-nil P
mapped f P h (x ∷ xs) = All-cons P (f x) (map f xs) (h x) (mapped f P h xs)

-- the numbers of a graph are those of its functions and its points
pub is_closed : (P : ProgramTree) (fs : List GraphFunction) (ps : List GraphPoint) (gs : List GlobalVar) → IsGraphOf (fs, ps, gs) P → IsClosed (fs, ps, gs)
is_closed P fs ps gs g =
    let points : length ps ≡ length (point_list P) = sym (length-map ps (point_at P)) ∙ ap length g.points ∙ length-map (point_list P) point_of in
    let functions : length fs ≡ length P.functions = sym (length-map fs (function_at P)) ∙ ap length g.functions ∙ length-map P.functions function_of in
    let edges = edges_listed P ps g.points in
    let few_points = g.valid.points in
    let few_edges = g.valid.edges in
    let few_functions = g.valid.functions in
    let inside = λ (n : ℕ) (h : IsSome (site_at P n)). let within = within_points P n h in let e : n < length ps = omega arith in e in
    let named = λ (n : ℕ) (h : IsSome (name_at P n)). let within = within_functions P n h in let e : n < length fs = omega arith in e in
    record {
      few_functions = omega arith;
      few_points = omega arith;
      few_edges = omega arith;
      functions =
          unmapped (function_at P) HasPlaces (λ f. (f.start < length ps) × (f.exit < length ps)) (λ f h. (inside f.start h.0, inside f.exit h.1)) fs
          (All-same HasPlaces _ _ g.functions (mapped function_of HasPlaces (λ f. (refl, refl)) P.functions));
      points =
          unmapped (point_at P) HasFunction (λ p. p.function < length fs) (λ p h. named p.function h) ps
          (All-same HasFunction _ _ g.points (mapped point_of HasFunction (λ m. refl) (point_list P)));
      ways =
          unmapped (point_at P) LeadsOn (λ p. All (λ w. w.to < length ps) p.node.ways.items)
          (λ p h. unmapped (way_at P) (λ w. IsSome w.to) (λ w. w.to < length ps) (λ w k. inside w.to k) p.node.ways.items h) ps
          (All-same LeadsOn _ _ g.points (mapped point_of LeadsOn (λ m. mapped (way_of m.function) (λ w. IsSome w.to) (λ w. refl) m.node.ways) (point_list P)));
    }

-- how many points the functions of a program have
pub program_points : (fs : List FunctionTree) → length (points_of fs) ≡ count_program fs
program_points [] = refl
program_points (f ∷ rest) =
    length-append (map (placed f.name) (function_nodes f)) (points_of rest)
    ∙ ap (λ n. n + length (points_of rest)) (length-map (function_nodes f) (placed f.name) ∙ function_nodes-length f)
    ∙ ap (λ n. count_function f + n) (program_points rest)
