use Rattle.std.proofs.Common.{◌≡◌, map, drop}
use Rattle.csub_tree.specs.Declarations.{init_tree, inits_of}
use Rattle.csub_validity.specs.Valid.{most_values}
use Rattle.csub_limits.specs.Limits.{first_above}
use Rattle.csub_limits.specs.Prints.{inits_prints}
use Rattle.csub_limits.proofs.prints.+initialiser.Given as goal

-- none of the initialisers so far has such a call
abbrev pub invariant-wide_in_inits-loop-init : goal.invariant-wide_in_inits-loop-init
invariant-wide_in_inits-loop-init l =
    first_above most_values (inits_prints (inits_of (map init_tree l.inits))) ≡ first_above most_values (inits_prints (inits_of (map init_tree (drop l.init-index l.inits))))
