use Rattle.program_laws.proofs.Decided.{labels}
use Rattle.program_laws.proofs.decided_labels.Goals as goal

pub returns : goal.returns
returns c = labels
