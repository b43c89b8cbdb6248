use Rattle.csub_semantics.specs.Syntax.{function_tree}
use Rattle.csub_decisions.specs.Checks.{tree_of}
use Rattle.csub_decisions.proofs.ValidStmts.{parts_of_map}
use Rattle.csub_decisions.proofs.valid.statements.are_parts.Goals as goal

pub returns-then-are_together : goal.returns-then-are_together
returns-then-are_together c =
    let together = c.are_together.ensures.0 c.if-are_together.true in
    let each = parts_of_map (tree_of c.args.program) (function_tree c.args.function.now) c.args.role c.args.parts.now in (
      λ h. record { few = together.0; one = together.1; each = each.1 (c.are_each.ensures.0 h) },
      λ h. c.are_each.ensures.1 (each.0 h.each),
    )

pub returns-else-are_together : goal.returns-else-are_together
returns-else-are_together c = (λ h. cc, λ h. c.are_together.ensures.1 (h.few, h.one))
