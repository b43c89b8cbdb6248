use Rattle.csub_semantics.specs.Flows.{flow_of}
use Rattle.source_laws.proofs.never_lost.Goals as goal

pub returns-clause-moments : goal.returns-clause-moments
returns-clause-moments c bytes P accepted = c.never_lost.ensures.moments P (c.valid_program.ensures.valid bytes P accepted)

pub returns-clause-results : goal.returns-clause-results
returns-clause-results c bytes P accepted = c.never_lost.ensures.results P (c.valid_program.ensures.valid bytes P accepted)

pub returns-clause-bounds : goal.returns-clause-bounds
returns-clause-bounds c bytes P accepted = c.bounds.ensures (flow_of P)
