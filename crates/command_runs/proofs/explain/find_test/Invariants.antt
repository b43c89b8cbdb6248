use Rattle.std.proofs.Common.{ℕ, ◌<◌}
use Rattle.command_runs.specs.Explain.{IsTestAt}
use Rattle.command_runs.proofs.explain.find_test.Given as goal

abbrev pub invariant-loop-place : goal.invariant-loop-place
invariant-loop-place l = (i : ℕ) → i < l.place → IsTestAt l.entries l.test i → ⊥
