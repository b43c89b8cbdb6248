use Rattle.std.proofs.Common.{◌≡◌, ◌++◌, drop, map}
use Rattle.line_text.specs.Lines.{text_of_lines}
use Rattle.test_suite.specs.Suites.{suite_text, test_line}
use Rattle.test_suite.proofs.writer.write_suite.Given as goal

abbrev pub invariant-loop-test : goal.invariant-loop-test
invariant-loop-test l = l.text.items ++ text_of_lines (map test_line (drop l.test-index l.tests)) ≡ suite_text l.tests
