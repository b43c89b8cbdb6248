use Rattle.std.proofs.Common.{ℕ, ◌<◌, get_or}
use Rattle.csub_semantics.specs.declared.types.GlobalVar.{GlobalVar}
use Rattle.csub_objects.specs.Meaning.{type_tree}
use Rattle.csub_validity.specs.Valid.{HasOwnNames}
use Rattle.csub_decisions.proofs.names.globals_are_own.Given as goal

abbrev pub invariant-loop-global : goal.invariant-loop-global
invariant-loop-global l = (k : ℕ) (d : GlobalVar) → k < l.global-index → HasOwnNames (type_tree (get_or l.globals k d).ctype)
