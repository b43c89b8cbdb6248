use Rattle.std.proofs.Common.{◌≢◌}
use Rattle.std.specs.List.{AllWithin}
use Rattle.csub_objects.specs.declared.types.Member.{Member}
use Rattle.csub_decisions.proofs.objects.is_new_param.Given as goal

abbrev pub invariant-loop-i : goal.invariant-loop-i
invariant-loop-i l = AllWithin (λ (p : Member). p.name ≢ l.name) l.params 0 l.i
