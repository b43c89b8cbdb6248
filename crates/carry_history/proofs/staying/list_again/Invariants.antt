use Rattle.std.proofs.Common.{◌≡◌, ◌++◌, drop}
use Rattle.carry_history.specs.Laid.{tests_again}
use Rattle.carry_history.proofs.staying.list_again.Given as goal

abbrev pub invariant-loop-place : goal.invariant-loop-place
invariant-loop-place l = l.tests.items ++ tests_again (drop l.place l.entries) (drop l.place l.stays) ≡ tests_again l.entries l.stays
