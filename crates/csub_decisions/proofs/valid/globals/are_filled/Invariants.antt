use Rattle.std.proofs.Common.{ℕ, ◌<◌, get_or}
use Rattle.csub_semantics.specs.declared.types.GlobalVar.{GlobalVar}
use Rattle.csub_semantics.specs.Types.{global_tree}
use Rattle.csub_decisions.specs.ProgramChecks.{IsFilled}
use Rattle.csub_decisions.proofs.valid.globals.are_filled.Given as goal

abbrev pub invariant-loop-global : goal.invariant-loop-global
invariant-loop-global l = (k : ℕ) (d : GlobalVar) → k < l.global-index → IsFilled (global_tree (get_or l.globals k d))
