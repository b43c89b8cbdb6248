use Rattle.std.proofs.Common.{◌≡◌, ◌++◌, drop, map}
use Rattle.std.specs.List.{flat_map}
use Rattle.csub_semantics.specs.Trees.{arg_tree}
use Rattle.label_code.specs.Uses.{arg_uses, use_tree}
use Rattle.label_code.proofs.uses.add_args.Given as goal

-- what is listed and the names of what is left are the names
abbrev pub invariant-loop-arg : goal.invariant-loop-arg
invariant-loop-arg l =
    map use_tree l.uses.items ++ flat_map arg_uses (map arg_tree (drop l.arg-index l.args)) ≡ map use_tree l.fn.uses.items ++ flat_map arg_uses (map arg_tree l.args)
