use Rattle.std.proofs.Common.{◌≡◌, ◌++◌, map, drop}
use Rattle.csub_semantics.specs.Syntax.{function_tree}
use Rattle.csub_tree.specs.Units.{item_tree}
use Rattle.csub_rules.specs.FineItems.{FineItems}
use Rattle.csub_units.specs.Views.{file_of}
use Rattle.csub_resolution.specs.Programs.{functions_in}
use Rattle.csub_items.proofs.function.functions_in.Given as goal

abbrev pub invariant-loop-item : goal.invariant-loop-item
invariant-loop-item l = record {
  made : map function_tree l.made.items ++ functions_in l.definitions (file_of l.file) (map item_tree (drop l.item-index l.items))
      ≡ functions_in l.definitions (file_of l.fn.file) (map item_tree l.items);
  fine : FineItems (file_of l.file) (map item_tree (drop l.item-index l.items));
}
