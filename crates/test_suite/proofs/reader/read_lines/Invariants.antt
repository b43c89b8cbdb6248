use Rattle.std.proofs.Common.{◌≡◌, ◌++◌, length}
use Rattle.std.specs.List.{All}
use Rattle.hex.specs.Hex.{IsBytes}
use Rattle.test_suite.specs.Suites.{suite_text}
use Rattle.test_suite.specs.Tests.{IsWithin}
use Rattle.test_suite.proofs.reader.read_lines.Given as goal

abbrev pub invariant-loop-line : goal.invariant-loop-line
invariant-loop-line l = record {
  text : l.bytes ≡ suite_text l.tests.items ++ l.rest;
  within : All IsWithin l.tests.items;
  inputs : All (λ test. IsBytes test.input) l.tests.items;
}

abbrev pub decreases-loop-line : goal.decreases-loop-line
decreases-loop-line l = length l.rest
