use Rattle.std.proofs.Common.{ℕ, ◌<◌, get_or}
use Rattle.csub_objects.specs.declared.types.Member.{Member}
use Rattle.csub_objects.specs.Meaning.{type_tree}
use Rattle.csub_validity.specs.Valid.{IsParameter}
use Rattle.csub_decisions.proofs.valid.objects.are_parameters.Given as goal

abbrev pub invariant-loop-param : goal.invariant-loop-param
invariant-loop-param l = (k : ℕ) (d : Member) → k < l.param-index → IsParameter (type_tree (get_or l.params k d).ctype)
