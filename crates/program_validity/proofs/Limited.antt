-- What the limits of a source leave.
use Rattle.std.proofs.Common.{◌≡◌, refl, arith, ℕ, ◌≤◌, List, [], ◌∷◌, Option, Some, None, Bool, true, false, nat_lt, if◌then◌else◌, option_map, map, length, drop}
use Rattle.std.specs.Option.{option_or}
use Rattle.std.proofs.lemmas.Bool.Decides.{nat_tests}
use Rattle.csub_tree.specs.Units.{Source, Item}
use Rattle.csub_semantics.specs.Syntax.{FunctionTree}
use Rattle.csub_semantics.specs.Flows.{points_of}
use Rattle.csub_resolution.specs.Programs.{program_of}
use Rattle.csub_limits.specs.Limits.{Passed, first_above, passed, edges_of, cells_in, first_limit, limit_passed}
use Rattle.csub_limits.specs.Prints.{items_prints}
use Rattle.csub_validity.specs.Valid.{most_values, most_parameters, most_global_cells, most_cells, most_edges, most_points, most_functions, frame_cells}
use Rattle.program_validity.proofs.Printing.{Few}

below : (m n : ℕ) → nat_lt m n ≡ false → n ≤ m
below m n h = grind (arith, nat_tests)

few_step : (b : Bool) (n : ℕ) (ns : List ℕ) → nat_lt most_values n ≡ b → (first_above most_values ns ≡ None → Few ns)
    → (if b then Some n else first_above most_values ns) ≡ None → Few (n ∷ ns)
few_step true n ns e rest h = absurd (cc)
few_step false n ns e rest h = (below most_values n e, rest h)

-- where none is above the limit
are_few : (ns : List ℕ) → first_above most_values ns ≡ None → Few ns
are_few [] h = tt
are_few (n ∷ ns) h = few_step (nat_lt most_values n) n ns refl (λ e. are_few ns e) h

abbrev printing : ℕ → Passed
printing n = record { number = 7; count = n }

none_passed : (o : Option ℕ) (p : Option Passed) → option_map printing o ≡ p → p ≡ None → o ≡ None
none_passed None p e h = refl
none_passed (Some n) p e h = absurd (cc)

second : (o p : Option Passed) → option_or o p ≡ None → p ≡ None
second None p h = h
second (Some x) p h = absurd (cc)

last_limit : (fs : List FunctionTree) (cells : ℕ) (items : List Item) → first_limit fs cells items ≡ None → passed 7 most_values (items_prints items) ≡ None
last_limit fs cells items h =
    second (passed 6 most_parameters (map (λ (f : FunctionTree). length f.params) fs)) _
    (second (passed 5 most_global_cells (cells ∷ [])) _
    (second (passed 4 most_cells (map frame_cells fs)) _
    (second (passed 3 most_edges (length (edges_of fs) ∷ [])) _
    (second (passed 2 most_points (length (points_of fs) ∷ [])) _
    (second (passed 1 most_functions (length (drop 1 fs) ∷ [])) _ h)))))

-- each `printf` of a source that passes no limit writes few values
pub few_printed : (u : Source) → limit_passed u ≡ None → Few (items_prints u.items)
few_printed u h =
    are_few (items_prints u.items)
    (none_passed (first_above most_values (items_prints u.items)) (passed 7 most_values (items_prints u.items)) refl
    (last_limit (program_of u).functions (cells_in (program_of u).globals) u.items h))
