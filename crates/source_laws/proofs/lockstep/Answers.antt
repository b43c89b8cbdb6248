use Rattle.source_laws.proofs.lockstep.Goals as goal

pub returns-clause-steps : goal.returns-clause-steps
returns-clause-steps c old new P P' accepted accepted' =
    let valid = c.valid_program.ensures.valid in
    c.lockstep.ensures.steps P P' (valid old P accepted) (valid new P' accepted')

pub returns-clause-runs : goal.returns-clause-runs
returns-clause-runs c old new P P' accepted accepted' =
    let valid = c.valid_program.ensures.valid in
    c.lockstep.ensures.runs P P' (valid old P accepted) (valid new P' accepted')
