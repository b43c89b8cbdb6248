use Rattle.source_laws.proofs.carried_is_recorded.Goals as goal

pub returns : goal.returns
returns c old new P P' accepted accepted' =
    let valid = c.valid_program.ensures.valid in
    c.carried_is_recorded.ensures P P' (valid old P accepted) (valid new P' accepted')
