use Rattle.csub_decisions.proofs.ValidTags.{AllAgree-declared}
use Rattle.csub_decisions.proofs.tags.tags_agree.Goals as goal

pub returns-then-globals_agree : goal.returns-then-globals_agree
returns-then-globals_agree c =
    let split = AllAgree-declared c.args.program in
    (λ h. split.1 (c.globals_agree.ensures.0 c.if-globals_agree.true, c.functions_agree.ensures.0 h), λ h. c.functions_agree.ensures.1 (split.0 h).1)

pub returns-else-globals_agree : goal.returns-else-globals_agree
returns-else-globals_agree c =
    let split = AllAgree-declared c.args.program in
    (λ h. cc, λ h. c.globals_agree.ensures.1 (split.0 h).0)
