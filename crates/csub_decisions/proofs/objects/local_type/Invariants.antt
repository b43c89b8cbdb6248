use Rattle.std.proofs.Common.{◌≡◌, map, drop}
use Rattle.csub_semantics.specs.Syntax.{local_tree}
use Rattle.csub_validity.specs.Valid.{type_in}
use Rattle.csub_decisions.proofs.objects.local_type.Given as goal

-- none of the locals so far has the name and the number
abbrev pub invariant-loop-local : goal.invariant-loop-local
invariant-loop-local l =
    type_in (map local_tree l.locals) l.name l.number ≡ type_in (map local_tree (drop l.local-index l.locals)) l.name l.number
