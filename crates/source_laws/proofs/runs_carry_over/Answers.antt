use Rattle.source_laws.proofs.runs_carry_over.Goals as goal

pub returns : goal.returns
returns c old new P P' accepted accepted' =
    let valid = c.valid_program.ensures.valid in
    c.runs_carry_over.ensures P P' (valid old P accepted) (valid new P' accepted')
