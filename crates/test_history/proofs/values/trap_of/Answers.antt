use Rattle.std.proofs.Common.{◌∙◌}
use Rattle.test_history.proofs.TrapLemmas.{named}
use Rattle.test_history.proofs.values.trap_of.Goals as goal

pub returns : goal.returns
returns c = named c.args.name.now c.copied.result (c.copied.ensures ∙ c.find_trap.ensures)
