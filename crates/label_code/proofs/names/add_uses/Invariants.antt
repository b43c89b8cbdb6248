use Rattle.std.proofs.Common.{◌≡◌, drop, map}
use Rattle.std.specs.List.{flat_map}
use Rattle.csub_semantics.specs.Globals.{ordered}
use Rattle.label_code.specs.Uses.{use_names, use_tree}
use Rattle.label_code.proofs.names.add_uses.Given as goal

-- the names that are there and those of what is left are the names
abbrev pub invariant-loop-used : goal.invariant-loop-used
invariant-loop-used l = ordered l.set (flat_map use_names (map use_tree (drop l.used-index l.uses))) ≡ ordered l.fn.set (flat_map use_names (map use_tree l.uses))
