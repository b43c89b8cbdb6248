use Rattle.std.proofs.Common.{refl}
use Rattle.csub_decisions.proofs.ValidPrograms.{AreDefined-split}
use Rattle.csub_decisions.proofs.valid.are_defined.Goals as goal

pub returns-then-is_framed : goal.returns-then-is_framed
returns-then-is_framed c =
    let split = AreDefined-split (record { functions = c.args.program.functions.now; globals = c.args.program.globals.now }) in
    (λ h. split.1 (c.if-is_framed.ensures.0 refl, c.are_functions.ensures.0 h), λ h. c.are_functions.ensures.1 (split.0 h).1)

pub returns-else-is_framed : goal.returns-else-is_framed
returns-else-is_framed c =
    let split = AreDefined-split (record { functions = c.args.program.functions.now; globals = c.args.program.globals.now }) in
    (λ h. cc, λ h. c.is_framed.ensures.1 (split.0 h).0)
