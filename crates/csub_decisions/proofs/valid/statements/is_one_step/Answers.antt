use Rattle.std.proofs.Common.{arith}
use Rattle.std.proofs.lemmas.List.{length-map}
use Rattle.csub_semantics.specs.Syntax.{part_tree}
use Rattle.csub_decisions.proofs.ValidStmts.{undeclared_of_map}
use Rattle.csub_decisions.proofs.valid.statements.is_one_step.Goals as goal

pub returns-then-parts-le1 : goal.returns-then-parts-le1
returns-then-parts-le1 c =
    let same = length-map c.args.parts.now part_tree in
    let each = undeclared_of_map c.args.parts.now in (
      λ h. (omega (arith, same, c.if-parts-le1.true), each.1 (c.declare_nothing.ensures.0 h)),
      λ h. c.declare_nothing.ensures.1 (each.0 h.1),
    )
