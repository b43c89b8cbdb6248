use Rattle.std.proofs.Common.{◌≡◌, map, take}
use Rattle.csub_semantics.specs.Trees.{arg_tree}
use Rattle.csub_semantics.proofs.copy.copy_args.Given as goal

abbrev pub invariant-loop-arg : goal.invariant-loop-arg
invariant-loop-arg l = map arg_tree l.made.items ≡ map arg_tree (take l.arg-index l.args)
