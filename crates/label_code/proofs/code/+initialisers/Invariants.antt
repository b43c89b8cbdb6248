use Rattle.std.proofs.Common.{◌≡◌, ◌++◌, drop, map}
use Rattle.csub_semantics.specs.Labels.{init_tree, inits_of}
use Rattle.label_code.specs.Bare.{bare_inits}
use Rattle.label_code.specs.Codes.{inits_code}
use Rattle.label_code.proofs.code.+initialisers.Given as goal

-- what is written and the codes of what is left are the code
abbrev pub invariant-push_inits-loop-entry : goal.invariant-push_inits-loop-entry
invariant-push_inits-loop-entry l =
    l.out.items ++ inits_code (bare_inits (inits_of (map init_tree (drop l.entry-index l.entries)))) ≡ l.fn.out.items ++ inits_code (bare_inits (inits_of (map init_tree l.entries)))
