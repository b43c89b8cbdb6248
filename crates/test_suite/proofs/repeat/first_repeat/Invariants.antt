use Rattle.std.proofs.Common.{◌≡◌, ◌≢◌, take, map}
use Rattle.std.specs.Prelude.{AllPairs}
use Rattle.test_suite.specs.Suites.{names_of}
use Rattle.test_suite.proofs.repeat.first_repeat.Given as goal

abbrev pub invariant-loop-place : goal.invariant-loop-place
invariant-loop-place l = record {
  names : map (λ name. name.now) l.names.keys ≡ take l.place (names_of l.tests);
  apart : AllPairs (λ name other. name ≢ other) (take l.place (names_of l.tests));
}
