use Rattle.program_laws.proofs.Turns.{never, has_results}
use Rattle.program_laws.proofs.never_lost.Goals as goal

pub returns-clause-moments : goal.returns-clause-moments
returns-clause-moments c = never

pub returns-clause-results : goal.returns-clause-results
returns-clause-results c = has_results
