use Rattle.csub_semantics.specs.Flows.{flow_of}
use Rattle.csub_semantics.specs.Books.{Reached, Dangerous}
use Rattle.program_laws.proofs.LawsFlows.{is_flow}
use Rattle.call_walk.proofs.ReachedClosed.{reached_closed}
use Rattle.call_walk.proofs.Together.{in_lockstep, same_runs}
use Rattle.call_walk.proofs.Respecting.{respects}
use Rattle.call_walk.proofs.laws.lockstep.Goals as goal

pub returns-clause-steps : goal.returns-clause-steps
returns-clause-steps c P P' valid valid' =
    let closed = reached_closed (flow_of P) (flow_of P') (is_flow P valid) (is_flow P' valid') in
    in_lockstep (flow_of P) (flow_of P') (is_flow P valid) (is_flow P' valid') (Reached (flow_of P) (flow_of P')) (Dangerous (flow_of P) (flow_of P')) closed (respects P P' valid valid')

pub returns-clause-runs : goal.returns-clause-runs
returns-clause-runs c P P' valid valid' =
    let closed = reached_closed (flow_of P) (flow_of P') (is_flow P valid) (is_flow P' valid') in
    same_runs (flow_of P) (flow_of P') (is_flow P valid) (is_flow P' valid') (Reached (flow_of P) (flow_of P')) (Dangerous (flow_of P) (flow_of P')) closed (respects P P' valid valid')
