use Rattle.std.proofs.Common.{◌≡◌, ◌++◌, drop, map}
use Rattle.csub_semantics.specs.Labels.{init_tree, inits_of}
use Rattle.label_code.specs.Uses.{inits_uses, use_tree}
use Rattle.label_code.proofs.uses.+initialisers.Given as goal

-- what is listed and the names of what is left are the names
abbrev pub invariant-add_inits-loop-entry : goal.invariant-add_inits-loop-entry
invariant-add_inits-loop-entry l =
    map use_tree l.uses.items ++ inits_uses (inits_of (map init_tree (drop l.entry-index l.entries)))
    ≡ map use_tree l.fn.uses.items ++ inits_uses (inits_of (map init_tree l.entries))
