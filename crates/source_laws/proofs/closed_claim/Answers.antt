use Rattle.source_laws.proofs.closed_claim.Goals as goal

pub returns : goal.returns
returns c old new P P' accepted accepted' =
    let valid = c.valid_program.ensures.valid in
    c.closed_claim.ensures P P' (valid old P accepted) (valid new P' accepted')
