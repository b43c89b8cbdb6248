use Rattle.std.proofs.Common.{◌≡◌, ◌≢◌}
use Rattle.std.specs.List.{AllWithin}
use Rattle.csub_semantics.specs.declared.function.LocalVar.{LocalVar}
use Rattle.csub_decisions.proofs.objects.is_new_local.Given as goal

abbrev pub invariant-loop-i : goal.invariant-loop-i
invariant-loop-i l = AllWithin (λ (v : LocalVar). v.name ≡ l.name → v.number ≢ l.number) l.locals 0 l.i
