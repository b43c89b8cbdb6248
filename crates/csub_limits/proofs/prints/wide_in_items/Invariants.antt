use Rattle.std.proofs.Common.{◌≡◌, map, drop}
use Rattle.csub_tree.specs.Units.{item_tree}
use Rattle.csub_validity.specs.Valid.{most_values}
use Rattle.csub_limits.specs.Limits.{first_above}
use Rattle.csub_limits.specs.Prints.{items_prints}
use Rattle.csub_limits.proofs.prints.wide_in_items.Given as goal

-- none of the items so far has such a call
abbrev pub invariant-loop-item : goal.invariant-loop-item
invariant-loop-item l =
    first_above most_values (items_prints (map item_tree l.items)) ≡ first_above most_values (items_prints (map item_tree (drop l.item-index l.items)))
