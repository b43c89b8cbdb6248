use Rattle.std.proofs.Common.{◌≢◌}
use Rattle.std.specs.List.{AllWithin}
use Rattle.csub_semantics.specs.declared.function.Function.{Function}
use Rattle.csub_decisions.proofs.valid.is_new.Given as goal

abbrev pub invariant-loop-i : goal.invariant-loop-i
invariant-loop-i l = AllWithin (λ (f : Function). f.name ≢ l.name) l.functions 0 l.i
