use Rattle.csub_semantics.specs.Syntax.{program_tree}
use Rattle.test_history.specs.Causes.{HasTextCause}
use Rattle.test_history.specs.declared.error.HistoryTextError.TheVariants.{TooLong}
use Rattle.command_histories.proofs.Migrating.{migration_too_long}
use Rattle.command_histories.proofs.migrate.migrated_text.Goals as goal

pub returns-in-Err-TooLong : goal.returns-in-Err-TooLong
returns-in-Err-TooLong c =
    let P = program_tree c.args.program.now in
    let history = c.in_ok-history.history in
    let why : HasTextCause history (TooLong c.in-Err-TooLong.count) = rw c.in-Err-TooLong.field-0-is at c.in-Err-TooLong.ensures.cause in
    migration_too_long c.args.source.now c.args.bytes.now P history (c.in_ok-history.ensures P (c.edges.ensures.listed P c.in_ok-graph.ensures)).file c.in-Err-TooLong.count why
