use Rattle.std.proofs.Common.{ℕ, ◌<◌, get_or}
use Rattle.csub_semantics.specs.declared.function.LocalVar.{LocalVar}
use Rattle.csub_objects.specs.Meaning.{type_tree}
use Rattle.csub_validity.specs.Valid.{HasOwnNames}
use Rattle.csub_decisions.proofs.names.locals_are_own.Given as goal

abbrev pub invariant-loop-local : goal.invariant-loop-local
invariant-loop-local l = (k : ℕ) (d : LocalVar) → k < l.local-index → HasOwnNames (type_tree (get_or l.locals k d).ctype)
