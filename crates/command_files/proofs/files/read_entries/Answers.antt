use Rattle.std.proofs.Common.{sym, ◌∙◌}
use Rattle.test_history.specs.declared.version.Version.TheVariants.{Third}
use Rattle.command_files.proofs.Entries.{no_history, only_history}
use Rattle.command_files.proofs.files.read_entries.Goals as goal

pub returns-in-Some : goal.returns-in-Some
returns-in-Some c = λ P counted.
    no_history Third c.args.bytes.now c.args.old.now c.args.edges P counted c.in-Err.error c.in-Some.cause (sym c.history_cause.ensures ∙ c.in-Some.is) c.in-Err.ensures.back c.in-Err.ensures.cause

pub returns-in-Ok : goal.returns-in-Ok
returns-in-Ok c = λ P counted.
    only_history Third c.args.bytes.now c.args.old.now c.args.edges P counted c.in-Ok.history c.in-Ok.ensures.history c.in-Ok.ensures.within c.in-Ok.ensures.digest c.in-Ok.ensures.edges
    c.in-Ok.ensures.exact c.in-Ok.ensures.back
