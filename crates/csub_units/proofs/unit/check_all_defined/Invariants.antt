use Rattle.std.proofs.Common.{◌≡◌, map, drop}
use Rattle.csub_tree.specs.Units.{item_tree}
use Rattle.csub_rules.specs.Faults.{◌or_earlier◌}
use Rattle.csub_rules.specs.Units.{undefineds_fault}
use Rattle.csub_units.proofs.unit.check_all_defined.Given as goal

abbrev pub invariant-loop-item : goal.invariant-loop-item
invariant-loop-item l =
    (l.least or_earlier undefineds_fault l.defined (map item_tree (drop l.item-index l.items))) ≡ undefineds_fault l.defined (map item_tree l.items)
