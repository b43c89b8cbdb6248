use Rattle.source_laws.proofs.Programs.{has_program, accepted_valid}
use Rattle.source_laws.proofs.valid_program.Goals as goal

pub returns-clause-has : goal.returns-clause-has
returns-clause-has c = has_program

pub returns-clause-valid : goal.returns-clause-valid
returns-clause-valid c = accepted_valid
