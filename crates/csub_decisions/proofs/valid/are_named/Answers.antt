use Rattle.std.proofs.Common.{refl}
use Rattle.csub_decisions.proofs.ValidPrograms.{AreNamed-split}
use Rattle.csub_decisions.proofs.valid.are_named.Goals as goal

pub returns-then-has_ends : goal.returns-then-has_ends
returns-then-has_ends c =
    let split = AreNamed-split c.args.functions.now in
    (λ h. split.1 (c.if-has_ends.ensures.0 refl, c.names_differ.ensures.0 h), λ h. c.names_differ.ensures.1 (split.0 h).1)
