use Rattle.std.proofs.Common.{rules}
use Rattle.command_words.proofs.RestLemmas.{no_command}
use Rattle.command_words.proofs.reading.read_words.Goals as goal

pub returns-in_default-2-clause-command : goal.returns-in_default-2-clause-command
returns-in_default-2-clause-command c =
    let refused = rw c.in_default-2.is at c.in_ok-rest.ensures in
    search (rules, no_command, refused)
