use Rattle.std.proofs.Common.{ℕ, ◌<◌, get_or}
use Rattle.csub_semantics.specs.declared.function.LocalVar.{LocalVar}
use Rattle.csub_semantics.specs.Syntax.{local_tree}
use Rattle.csub_validity.specs.Valid.{AreOther}
use Rattle.csub_decisions.proofs.objects.locals_differ.Given as goal

abbrev pub invariant-loop-i : goal.invariant-loop-i
invariant-loop-i l =
    (k j : ℕ) (d : LocalVar) → k < j → j < l.i → AreOther (local_tree (get_or l.locals k d)) (local_tree (get_or l.locals j d))
