use Rattle.std.proofs.Common.{◌≡◌, map, drop}
use Rattle.csub_objects.specs.Meaning.{member_tree}
use Rattle.csub_validity.specs.Valid.{parameter_object, type_in}
use Rattle.csub_decisions.proofs.objects.param_type.Given as goal

-- none of the parameters so far has the name and the number
abbrev pub invariant-loop-param : goal.invariant-loop-param
invariant-loop-param l =
    type_in (map (λ p. parameter_object (member_tree p)) l.params) l.name l.number
    ≡ type_in (map (λ p. parameter_object (member_tree p)) (drop l.param-index l.params)) l.name l.number
