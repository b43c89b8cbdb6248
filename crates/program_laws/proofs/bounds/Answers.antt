use Rattle.program_laws.proofs.Written.{bounded}
use Rattle.program_laws.proofs.bounds.Goals as goal

pub returns : goal.returns
returns c = bounded
