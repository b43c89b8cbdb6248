use Rattle.std.proofs.Common.{◌≡◌, length}
use Rattle.file_tests.proofs.row_of_numbers.row_of_numbers.Given as goal

abbrev pub invariant-loop-number : goal.invariant-loop-number
invariant-loop-number l = length l.row ≡ l.edges
