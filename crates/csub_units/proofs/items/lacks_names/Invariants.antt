use Rattle.std.proofs.Common.{◌≡◌, ◌||◌, map, drop}
use Rattle.csub_tree.specs.Declarations.{param_tree}
use Rattle.csub_rules.specs.Items.{lacks_names}
use Rattle.csub_units.proofs.items.lacks_names.Given as goal

abbrev pub invariant-loop-p : goal.invariant-loop-p
invariant-loop-p l = (l.lacks || lacks_names (map param_tree (drop l.p-index l.params))) ≡ lacks_names (map param_tree l.params)
