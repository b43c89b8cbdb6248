use Rattle.std.proofs.Common.{◌≡◌, ◌++◌, map, drop}
use Rattle.csub_objects.specs.Meaning.{member_tree}
use Rattle.csub_semantics.specs.Trees.{arg_tree}
use Rattle.csub_flat.specs.Flatten.{paired}
use Rattle.csub_flat.specs.Fits.{FitArgs}
use Rattle.csub_flat.specs.Scopes.{globals_at, function_at}
use Rattle.csub_flat.specs.Seen.{arg_seen}
use Rattle.csub_flat.proofs.flatten.flatten_args.Given as goal

abbrev pub invariant-loop-param : goal.invariant-loop-param
invariant-loop-param l =
    (map arg_seen l.made.items ++ paired (globals_at l.scope) (function_at l.scope) (function_at l.callee) (map member_tree (drop l.param-index l.params)) (map arg_tree l.rest)
    ≡ paired (globals_at l.scope) (function_at l.scope) (function_at l.callee) (map member_tree l.params) (map arg_tree l.fn.args))
    × FitArgs (globals_at l.scope) (function_at l.scope) (map member_tree (drop l.param-index l.params)) (map arg_tree l.rest)
