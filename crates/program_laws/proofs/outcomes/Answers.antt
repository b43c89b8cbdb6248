use Rattle.program_laws.proofs.LawsOutcomes.{fits}
use Rattle.program_laws.proofs.outcomes.Goals as goal

pub returns : goal.returns
returns c = fits
