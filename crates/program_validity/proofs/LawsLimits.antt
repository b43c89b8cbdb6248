-- What a source gives that passes no limit.
use Rattle.std.proofs.Common.{◌≡◌, ◌≤◌, ◌+◌, ℕ, arith, Bool, true, false, List, [], ◌∷◌, map, length, drop, All, Option, Some, None, refl}
use Rattle.std.specs.Prelude.{option_map, nat_lt, if◌then◌else◌}
use Rattle.std.specs.Option.{option_or}
use Rattle.std.proofs.lemmas.Bool.Decides.{nat_tests}
use Rattle.std.proofs.lemmas.List.Elements.{All-nil, All-cons, All-head}
use Rattle.csub_tree.specs.Units.{Item, Source}
use Rattle.csub_semantics.specs.Syntax.{FunctionTree}
use Rattle.csub_semantics.specs.Flows.{points_of, point_list, edge_list}
use Rattle.csub_validity.specs.Valid.{most_functions, most_points, most_edges, most_cells, most_global_cells, most_parameters, most_values}
use Rattle.csub_validity.specs.Valid.{frame_cells}
use Rattle.csub_resolution.specs.Programs.{program_of}
use Rattle.csub_limits.specs.Limits.{Passed, first_above, passed, edges_of, cells_in, first_limit, limit_passed}
use Rattle.csub_limits.specs.Prints.{items_prints}
use Rattle.program_validity.proofs.Lists.{from_map}

none_or : {A : Type 0} (o p : Option A) → option_or o p ≡ None → (o ≡ None) × (p ≡ None)
none_or None p h = (refl, h)
none_or (Some x) p h = absurd (cc)

unmapped : {A B : Type 0} (f : A → B) (o : Option A) → option_map f o ≡ None → o ≡ None
unmapped f None h = refl
unmapped f (Some x) h = absurd (cc)

at_most : (m n : ℕ) → nat_lt m n ≡ false → n ≤ m
at_most m n h = grind (arith, nat_tests)

by_first : (most n : ℕ) (ns : List ℕ) (later : first_above most ns ≡ None → All (λ k. k ≤ most) ns) (b : Bool) → nat_lt most n ≡ b
    → (if b then Some n else first_above most ns) ≡ None → All (λ k. k ≤ most) (n ∷ ns)
by_first most n ns later true e h = absurd (cc)
by_first most n ns later false e h = All-cons (λ k. k ≤ most) n ns (at_most most n e) (later h)

none_above : (most : ℕ) (ns : List ℕ) → first_above most ns ≡ None → All (λ k. k ≤ most) ns
none_above most [] h = All-nil (λ k. k ≤ most)
none_above most (n ∷ ns) h = by_first most n ns (none_above most ns) (nat_lt most n) refl h

none_passed : (number most : ℕ) (ns : List ℕ) → passed number most ns ≡ None → All (λ k. k ≤ most) ns
none_passed number most ns h = none_above most ns (unmapped (λ n. record { number = number; count = n }) (first_above most ns) h)

one_passed : (number most n : ℕ) → passed number most (n ∷ []) ≡ None → n ≤ most
one_passed number most n h = All-head (λ k. k ≤ most) n [] (none_passed number most (n ∷ []) h)

pub record IsWithin (fs : List FunctionTree) (global_cells : ℕ) (items : List Item) : Type 0 where
  pub functions : length (drop 1 fs) ≤ most_functions
  pub points : length (points_of fs) ≤ most_points
  pub edges : length (edges_of fs) ≤ most_edges
  pub frames : All (λ f. frame_cells f ≤ most_cells) fs
  pub cells : global_cells ≤ most_global_cells
  pub parameters : All (λ (f : FunctionTree). length f.params ≤ most_parameters) fs
  pub values : All (λ n. n ≤ most_values) (items_prints items)

within : (fs : List FunctionTree) (cells : ℕ) (items : List Item) → first_limit fs cells items ≡ None → IsWithin fs cells items
within fs cells items h =
    let p1 : Option Passed = passed 1 most_functions (length (drop 1 fs) ∷ []) in
    let p2 : Option Passed = passed 2 most_points (length (points_of fs) ∷ []) in
    let p3 : Option Passed = passed 3 most_edges (length (edges_of fs) ∷ []) in
    let p4 : Option Passed = passed 4 most_cells (map frame_cells fs) in
    let p5 : Option Passed = passed 5 most_global_cells (cells ∷ []) in
    let p6 : Option Passed = passed 6 most_parameters (map (λ (f : FunctionTree). length f.params) fs) in
    let p7 : Option Passed = passed 7 most_values (items_prints items) in
    let q1 = none_or p1 (option_or p2 (option_or p3 (option_or p4 (option_or p5 (option_or p6 p7))))) h in
    let q2 = none_or p2 (option_or p3 (option_or p4 (option_or p5 (option_or p6 p7)))) q1.1 in
    let q3 = none_or p3 (option_or p4 (option_or p5 (option_or p6 p7))) q2.1 in
    let q4 = none_or p4 (option_or p5 (option_or p6 p7)) q3.1 in
    let q5 = none_or p5 (option_or p6 p7) q4.1 in
    let q6 = none_or p6 p7 q5.1 in
    record {
      functions = one_passed 1 most_functions (length (drop 1 fs)) q1.0;
      points = one_passed 2 most_points (length (points_of fs)) q2.0;
      edges = one_passed 3 most_edges (length (edges_of fs)) q3.0;
      frames = from_map (λ k. k ≤ most_cells) frame_cells fs (none_passed 4 most_cells (map frame_cells fs) q4.0);
      cells = one_passed 5 most_global_cells cells q5.0;
      parameters =
          from_map (λ k. k ≤ most_parameters) (λ (f : FunctionTree). length f.params) fs
          (none_passed 6 most_parameters (map (λ (f : FunctionTree). length f.params) fs) q6.0);
      values = none_passed 7 most_values (items_prints items) q6.1;
    }

module _ (u : Source) (h : limit_passed u ≡ None) where
  pub is_within : IsWithin (program_of u).functions (cells_in (program_of u).globals) u.items
  is_within = within (program_of u).functions (cells_in (program_of u).globals) u.items h

  pub functions : length (program_of u).functions ≤ most_functions + 1
  functions = let few = is_within.functions in omega arith

  pub points : length (point_list (program_of u)) ≤ most_points
  points = is_within.points

  pub edges : length (edge_list (program_of u)) ≤ most_edges
  edges = is_within.edges

  pub frames : All (λ f. frame_cells f ≤ most_cells) (program_of u).functions
  frames = is_within.frames

  pub global_cells : cells_in (program_of u).globals ≤ most_global_cells
  global_cells = is_within.cells

  pub parameters : All (λ (f : FunctionTree). length f.params ≤ most_parameters) (program_of u).functions
  parameters = is_within.parameters

  -- of every `printf`
  pub values : All (λ n. n ≤ most_values) (items_prints u.items)
  values = is_within.values
