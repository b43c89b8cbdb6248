use Rattle.std.proofs.Common.{◌≡◌, ◌++◌, drop, map}
use Rattle.std.specs.List.{flat_map}
use Rattle.csub_semantics.specs.Trees.{arg_tree}
use Rattle.label_code.specs.Bare.{bare_arg}
use Rattle.label_code.specs.Codes.{arg_code, list_code}
use Rattle.label_code.proofs.code.push_args.Given as goal

-- what is written and the codes of what is left are the code
abbrev pub invariant-loop-arg : goal.invariant-loop-arg
invariant-loop-arg l =
    l.out.items ++ flat_map arg_code (map bare_arg (map arg_tree (drop l.arg-index l.args))) ≡ l.fn.out.items ++ list_code arg_code (map bare_arg (map arg_tree l.args))
