use Rattle.std.proofs.Common.{ℕ, ◌<◌, ◌≢◌, get_or}
use Rattle.csub_semantics.specs.declared.function.Function.{Function}
use Rattle.csub_decisions.proofs.valid.names_differ.Given as goal

abbrev pub invariant-loop-i : goal.invariant-loop-i
invariant-loop-i l = (k j : ℕ) (d : Function) → k < j → j < l.i → (get_or l.functions k d).name ≢ (get_or l.functions j d).name
