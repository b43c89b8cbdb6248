use Rattle.std.proofs.Common.{sym, rules}
use Rattle.line_text.proofs.Laws.{length-bytes_or_dash}
use Rattle.line_text.proofs.bytes.bytes_or_dash_length.Goals as goal

pub returns-else-is_empty-clause-exact : goal.returns-else-is_empty-clause-exact
returns-else-is_empty-clause-exact c = sym (length-bytes_or_dash c.args.bytes.now (search rules))
