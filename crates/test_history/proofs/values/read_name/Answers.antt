use Rattle.std.proofs.Common.{codes, subst}
use Rattle.test_suite.specs.Tests.{IsTestName}
use Rattle.line_text.proofs.LawsOfValues.{one_value}
use Rattle.test_history.proofs.values.read_name.Goals as goal

pub returns-else-is_test_name : goal.returns-else-is_test_name
returns-else-is_test_name c = λ name has.
    let same = one_value c.args.text.now 1 (codes "test") name c.in_ok-name.name.bytes.now has.1 c.in_ok-name.ensures.line in
    let good = subst IsTestName same has.0 in
    cc (c.is_test_name.ensures.1 good, c.if-is_test_name.false)
