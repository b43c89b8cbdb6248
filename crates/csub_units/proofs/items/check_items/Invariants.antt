use Rattle.std.proofs.Common.{◌≡◌, map, drop}
use Rattle.csub_tree.specs.Units.{item_tree}
use Rattle.csub_rules.specs.Faults.{◌or_earlier◌}
use Rattle.csub_rules.specs.Items.{items_fault, past_items}
use Rattle.csub_units.specs.Views.{file_of}
use Rattle.csub_units.proofs.items.check_items.Given as goal

abbrev pub invariant-loop-item : goal.invariant-loop-item
invariant-loop-item l = record {
  past : past_items (file_of l.file) (map item_tree (drop l.item-index l.items)) ≡ past_items (file_of l.fn.file) (map item_tree l.items);
  faults : (l.least or_earlier items_fault (file_of l.file) (map item_tree (drop l.item-index l.items)))
      ≡ items_fault (file_of l.fn.file) (map item_tree l.items);
}
