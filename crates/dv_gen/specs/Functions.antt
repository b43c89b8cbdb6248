-- The numbers of all functions, as they are drawn once for both sources.
use Rattle.std.specs.Prelude.{ℕ, List, map}
use Rattle.std.specs.List.{range_with_len}
use Rattle.dv_gen.specs.declared.functions.Function.{Function}
use Rattle.dv_gen.specs.Pairs.{bound_of, taken_of, added_of}

-- the numbers of function i
abbrev pub numbers_of : ℕ → ℕ → Function
numbers_of seed i = record { bound = bound_of seed i; taken = taken_of seed i; added = added_of seed i }

-- the numbers of each function
abbrev pub functions_of : ℕ → ℕ → List Function
functions_of seed size = map (numbers_of seed) (range_with_len 0 size)
