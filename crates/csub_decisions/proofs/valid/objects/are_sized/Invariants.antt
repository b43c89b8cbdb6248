use Rattle.std.proofs.Common.{ℕ, ◌<◌, get_or}
use Rattle.csub_semantics.specs.declared.function.LocalVar.{LocalVar}
use Rattle.csub_objects.specs.Meaning.{type_tree}
use Rattle.csub_objects.specs.Types.{IsSized}
use Rattle.csub_decisions.proofs.valid.objects.are_sized.Given as goal

abbrev pub invariant-loop-local : goal.invariant-loop-local
invariant-loop-local l = (k : ℕ) (d : LocalVar) → k < l.local-index → IsSized (type_tree (get_or l.locals k d).ctype)
