use Rattle.std.proofs.Common.{◌≡◌, map, take}
use Rattle.csub_semantics.specs.Labels.{init_tree}
use Rattle.csub_semantics.proofs.copy.+copying_init.Given as goal

abbrev pub invariant-copy_inits-loop-entry : goal.invariant-copy_inits-loop-entry
invariant-copy_inits-loop-entry l = map init_tree l.made.items ≡ map init_tree (take l.entry-index l.entries)
