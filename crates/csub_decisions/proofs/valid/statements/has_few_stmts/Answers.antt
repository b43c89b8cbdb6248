use Rattle.std.proofs.Common.{rules}
use Rattle.csub_decisions.proofs.ValidStmts.{stmt_count-list}
use Rattle.csub_decisions.proofs.valid.statements.has_few_stmts.Goals as goal

pub returns : goal.returns
returns c = rw (stmt_count-list c.args.stmts.now) (search rules)
