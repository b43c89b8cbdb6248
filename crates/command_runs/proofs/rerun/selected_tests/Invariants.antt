use Rattle.std.proofs.Common.{◌≡◌, ◌++◌, drop}
use Rattle.command_runs.specs.Rerun.{selected_tests}
use Rattle.command_runs.proofs.rerun.selected_tests.Given as goal

abbrev pub invariant-loop-place : goal.invariant-loop-place
invariant-loop-place l = l.tests.items ++ selected_tests (drop l.place l.entries) (drop l.place l.choices) ≡ selected_tests l.entries l.choices
