-- Workers may share tests and hand them on.
use denote.Param.Send.{IsSend, IsSync, sendable}
use Rattle.std.proofs.Crossing.{crosses}
use Rattle.test_suite.specs.contracts.test.Test as Test

pub Test-send : IsSend Test.the_row
Test-send = search (crosses, sendable) depth 60

pub Test-sync : IsSync Test.the_row
Test-sync = search (crosses, sendable) depth 60
