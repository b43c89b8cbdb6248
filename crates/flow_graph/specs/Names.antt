-- How a graph finds a function by its name. No definition of what the graph is needs this file.
use Rattle.std.specs.Prelude.{ℕ, ◌≡◌, ◌<◌, List, length, Option, IfSome, slice_get, find, bytes_eq}
use Rattle.std.specs.Option.{option_and_then}
use Rattle.std.specs.Ordering.{nat_cmp}
use Rattle.std.specs.Cmp.Lexicographic.{slice_cmp}
use Rattle.std.specs.BTreeMap.{BTreeMap, get}
use Rattle.csub_objects.specs.Types.{Name}
use Rattle.flow_graph.specs.declared.node.GraphFunction.{GraphFunction}

-- the number that is entered under a name
abbrev pub number_of : BTreeMap Name ℕ → Name → Option ℕ
number_of names a = get (slice_cmp nat_cmp) names a

-- under each name the place of the first function that has it, if there is one
pub record AreNamed (functions : List GraphFunction) (names : BTreeMap Name ℕ) : Type 0 where
  pub found : (a : Name) → option_and_then (slice_get functions) (number_of names a) ≡ find (λ f. bytes_eq f.name a) functions
  pub within : (a : Name) → IfSome (number_of names a) (λ i. i < length functions)
