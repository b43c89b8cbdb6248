-- The slots of globals by their names, as the code looks them up.
use Rattle.std.specs.Prelude.{ℕ, ◌≡◌, List}
use Rattle.std.specs.Option.{option_map}
use Rattle.std.specs.Ordering.{nat_cmp}
use Rattle.std.specs.Cmp.Lexicographic.{slice_cmp}
use Rattle.std.specs.BTreeMap.{BTreeMap, get}
use Rattle.csub_objects.specs.Types.{Name}
use Rattle.csub_semantics.specs.Syntax.{LocalTree}
use Rattle.csub_flat.specs.Frames.{place_in}

-- each name has the slot of the first global of that name, and no slot where there is none
abbrev pub AreSlotsOf : List LocalTree → BTreeMap Name ℕ → Type 0
AreSlotsOf gs slots = (a : Name) → get (slice_cmp nat_cmp) slots a ≡ option_map (λ x. x.at) (place_in gs a 0)
