use Rattle.csub_semantics.specs.Flows.{flow_of}
use Rattle.program_laws.proofs.LawsFlows.{is_flow}
use Rattle.call_walk.proofs.ReachedClosed.{reached_closed}
use Rattle.call_walk.proofs.laws.reached_is_closed.Goals as goal

pub returns : goal.returns
returns c P P' valid valid' = reached_closed (flow_of P) (flow_of P') (is_flow P valid) (is_flow P' valid')
