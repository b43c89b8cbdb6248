use Rattle.std.proofs.Common.{refl}
use Rattle.csub_decisions.specs.Checks.{tree_of}
use Rattle.csub_decisions.proofs.ValidPrograms.{IsValid-split}
use Rattle.csub_decisions.proofs.valid.is_valid.Goals as goal

pub returns-then-are_defined : goal.returns-then-are_defined
returns-then-are_defined c =
    let split = IsValid-split (tree_of c.args.program) c.names_are_own.ensures in
    (λ h. split.1 (c.if-are_defined.ensures.0 refl, c.tags_agree.ensures.0 h), λ h. c.tags_agree.ensures.1 (split.0 h).1)

pub returns-else-are_defined : goal.returns-else-are_defined
returns-else-are_defined c =
    let split = IsValid-split (tree_of c.args.program) c.names_are_own.ensures in
    (λ h. cc, λ h. c.are_defined.ensures.1 (split.0 h).0)
