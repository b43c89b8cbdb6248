use Rattle.program_laws.proofs.LawsFlows.{is_flow}
use Rattle.program_laws.proofs.flows.Goals as goal

pub returns : goal.returns
returns c = is_flow
