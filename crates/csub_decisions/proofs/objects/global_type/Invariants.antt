use Rattle.std.proofs.Common.{◌≡◌, map, drop}
use Rattle.csub_semantics.specs.Types.{global_tree}
use Rattle.csub_validity.specs.Valid.{global_type}
use Rattle.csub_decisions.proofs.objects.global_type.Given as goal

-- none of the globals so far has the name
abbrev pub invariant-loop-global : goal.invariant-loop-global
invariant-loop-global l =
    global_type (map global_tree l.globals) l.name ≡ global_type (map global_tree (drop l.global-index l.globals)) l.name
