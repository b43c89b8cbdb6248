use Rattle.std.proofs.Common.{ℕ, ◌<◌, ◌≢◌, get_or}
use Rattle.csub_objects.specs.declared.types.Member.{Member}
use Rattle.csub_decisions.proofs.objects.params_differ.Given as goal

abbrev pub invariant-loop-i : goal.invariant-loop-i
invariant-loop-i l = (k j : ℕ) (d : Member) → k < j → j < l.i → (get_or l.params k d).name ≢ (get_or l.params j d).name
