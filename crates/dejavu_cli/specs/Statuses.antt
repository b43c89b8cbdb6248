-- The exit statuses.
use Rattle.std.specs.Prelude.{ℕ}
use Rattle.command_refusals.specs.declared.refusal.Refusal.{Refusal}
use Rattle.command_refusals.specs.declared.refusal.Refusal.TheVariants as refusal
use Rattle.dejavu_cli.specs.declared.answer.End.{End}
use Rattle.dejavu_cli.specs.declared.answer.End.TheVariants as ends
use Rattle.dejavu_cli.specs.declared.status.Status8.{Status8}
use Rattle.dejavu_cli.specs.declared.status.Status8.TheVariants as status

-- their numbers
abbrev pub number_of : Status8 → ℕ
number_of status.Done = 0
number_of status.Differs = 1
number_of status.Usage = 2
number_of status.Source = 3
number_of status.Suite = 4
number_of status.History = 5
number_of status.ReadFault = 6
number_of status.WriteFault = 7
number_of status.Memory = 8
number_of status.TooMuch = 9
number_of status.Certificate = 10
number_of status.Open = 11

-- the status of a command that is done
abbrev pub done_as : End → Status8
done_as ends.Whole = status.Done
done_as ends.Differs = status.Differs
done_as ends.Open = status.Open

-- the status of a refusal
abbrev pub status_of : Refusal → Status8
status_of refusal.Usage = status.Usage
status_of (refusal.Source which cause) = status.Source
status_of (refusal.Suite cause) = status.Suite
status_of (refusal.History cause) = status.History
status_of (refusal.Certificate cause) = status.Certificate
status_of (refusal.NoTest name) = status.History
status_of refusal.ReadFault = status.ReadFault
status_of refusal.Memory = status.Memory
status_of (refusal.TooMuch which count) = status.TooMuch
