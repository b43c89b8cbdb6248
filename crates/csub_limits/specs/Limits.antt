-- The limits of a source, and which of them it passes first.
use Rattle.std.specs.Prelude.{ℕ, nat_lt, List, [], ◌∷◌, map, length, drop, sum_by, Option, Some, None, option_map, if◌then◌else◌}
use Rattle.std.specs.List.{flat_map}
use Rattle.std.specs.Option.{option_or}
use Rattle.csub_tree.specs.Units.{Item, Source}
use Rattle.csub_objects.specs.Types.{cells}
use Rattle.csub_semantics.specs.Types.{GlobalTree}
use Rattle.csub_semantics.specs.Syntax.{FunctionTree}
use Rattle.csub_semantics.specs.Flows.{points_of, Edge, edges_from}
use Rattle.csub_validity.specs.Valid.{most_functions, most_points, most_edges, most_cells, most_global_cells, most_parameters, most_values}
use Rattle.csub_validity.specs.Valid.{frame_cells}
use Rattle.csub_resolution.specs.Programs.{program_of}
use Rattle.csub_limits.specs.Prints.{items_prints}

-- a limit by its number, and the count that passes it
pub record Passed : Type 0 where
  pub number : ℕ
  pub count : ℕ

-- the first of some counts that is above a limit
abbrev pub first_above : ℕ → List ℕ → Option ℕ
first_above most [] = None
first_above most (n ∷ ns) = if nat_lt most n then Some n else first_above most ns

abbrev pub passed : ℕ → ℕ → List ℕ → Option Passed
passed number most counts = option_map (λ n. record { number = number; count = n }) (first_above most counts)

-- the edges of functions
abbrev pub edges_of : List FunctionTree → List Edge
edges_of fs = flat_map edges_from (points_of fs)

abbrev pub cells_in : List GlobalTree → ℕ
cells_in gs = sum_by (λ (g : GlobalTree). cells g.ctype) gs

-- The functions count without `#start`, points and edges with it; frames, parameters and values of `printf` in the order of the
-- source.
abbrev pub first_limit : List FunctionTree → ℕ → List Item → Option Passed
first_limit fs global_cells items =
    option_or (passed 1 most_functions (length (drop 1 fs) ∷ []))
    (option_or (passed 2 most_points (length (points_of fs) ∷ []))
    (option_or (passed 3 most_edges (length (edges_of fs) ∷ []))
    (option_or (passed 4 most_cells (map frame_cells fs))
    (option_or (passed 5 most_global_cells (global_cells ∷ []))
    (option_or (passed 6 most_parameters (map (λ (f : FunctionTree). length f.params) fs))
    (passed 7 most_values (items_prints items)))))))

-- the first limit that a source passes
abbrev pub limit_passed : Source → Option Passed
limit_passed u = let program = program_of u in first_limit program.functions (cells_in program.globals) u.items
