-- Texts may cross threads, though copies share their bytes.
use denote.Param.Send.{IsSend, IsSync, sendable}
use Rattle.std.proofs.Crossing.{crosses}
use Rattle.csub_text.specs.contracts.text.Text as Text

pub Text-send : IsSend Text.the_row
Text-send = search (crosses, sendable) depth 60

pub Text-sync : IsSync Text.the_row
Text-sync = search (crosses, sendable) depth 60
