use Rattle.csub_semantics.specs.Flows.{flow_of}
use Rattle.program_laws.proofs.LawsFlows.{is_flow}
use Rattle.call_walk.specs.Lockstep.{claims, among}
use Rattle.call_walk.proofs.Together.{in_lockstep, same_runs}
use Rattle.call_walk.proofs.Respecting.{respects}
use Rattle.call_walk.proofs.laws.certificate.Goals as goal

pub returns-clause-steps : goal.returns-clause-steps
returns-clause-steps c P P' valid valid' facts edges closed = in_lockstep (flow_of P) (flow_of P') (is_flow P valid) (is_flow P' valid') (claims facts) (among edges) closed (respects P P' valid valid')

pub returns-clause-runs : goal.returns-clause-runs
returns-clause-runs c P P' valid valid' facts edges closed = same_runs (flow_of P) (flow_of P') (is_flow P valid) (is_flow P' valid') (claims facts) (among edges) closed (respects P P' valid valid')
