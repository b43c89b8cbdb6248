-- Workers may share entries and histories and hand them on.
use denote.Param.Send.{IsSend, IsSync, sendable}
use Rattle.std.proofs.Crossing.{crosses}
use Rattle.test_history.specs.contracts.entry.Entry as Entry
use Rattle.test_history.specs.contracts.history.History as History

pub Entry-send : IsSend Entry.the_row
Entry-send = search (crosses, sendable) depth 60

pub Entry-sync : IsSync Entry.the_row
Entry-sync = search (crosses, sendable) depth 60

pub History-send : IsSend History.the_row
History-send = search (crosses, sendable) depth 60

pub History-sync : IsSync History.the_row
History-sync = search (crosses, sendable) depth 60
