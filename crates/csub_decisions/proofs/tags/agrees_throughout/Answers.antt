use Rattle.csub_validity.specs.Valid.{AgreeOn}
use Rattle.csub_decisions.specs.Checks.{struct_tree}
use Rattle.csub_decisions.proofs.ValidTags.{declared_split}
use Rattle.csub_decisions.proofs.tags.agrees_throughout.Goals as goal

pub returns-then-agrees_in_globals : goal.returns-then-agrees_in_globals
returns-then-agrees_in_globals c =
    let split = declared_split (AgreeOn (struct_tree c.args.tag.now c.args.members.now)) c.args.program in
    (λ h. split.1 (c.agrees_in_globals.ensures.0 c.if-agrees_in_globals.true, c.agrees_in_functions.ensures.0 h), λ h. c.agrees_in_functions.ensures.1 (split.0 h).1)

pub returns-else-agrees_in_globals : goal.returns-else-agrees_in_globals
returns-else-agrees_in_globals c =
    let split = declared_split (AgreeOn (struct_tree c.args.tag.now c.args.members.now)) c.args.program in
    (λ h. cc, λ h. c.agrees_in_globals.ensures.1 (split.0 h).0)
