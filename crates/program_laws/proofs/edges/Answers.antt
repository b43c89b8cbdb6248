use Rattle.program_laws.proofs.Numbered.{edges_have_numbers}
use Rattle.program_laws.proofs.edges.Goals as goal

pub returns : goal.returns
returns c = edges_have_numbers
