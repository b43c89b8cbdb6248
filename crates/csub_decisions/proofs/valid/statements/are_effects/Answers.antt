use Rattle.csub_semantics.specs.Syntax.{function_tree}
use Rattle.csub_decisions.specs.Checks.{tree_of}
use Rattle.csub_decisions.proofs.ValidStmts.{effects_of_map}
use Rattle.csub_decisions.proofs.valid.statements.are_effects.Goals as goal

pub returns : goal.returns
returns c =
    let each = effects_of_map (tree_of c.args.program) (function_tree c.args.function.now) c.args.parts.now in
    (λ h. each.1 (c.are_each.ensures.0 h), λ h. c.are_each.ensures.1 (each.0 h))
