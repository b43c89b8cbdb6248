use Rattle.std.proofs.Common.{ℕ, ◌<◌, get_or}
use Rattle.csub_objects.specs.declared.types.Member.{Member}
use Rattle.csub_objects.specs.Meaning.{type_tree}
use Rattle.csub_objects.specs.Types.{HasArrays}
use Rattle.csub_objects.proofs.make.have_arrays.Given as goal

abbrev pub invariant-loop-member : goal.invariant-loop-member
invariant-loop-member l = (k : ℕ) (d : Member) → k < l.member-index → HasArrays (type_tree (get_or l.members k d).ctype)
