use Rattle.std.proofs.Common.{arith, inl, inr}
use Rattle.std.proofs.lemmas.List.{length-map}
use Rattle.csub_semantics.specs.Syntax.{part_tree}
use Rattle.csub_decisions.proofs.ValidStmts.{declared_of_map}
use Rattle.csub_decisions.proofs.valid.statements.are_together.Goals as goal

pub returns-else-parts-le1 : goal.returns-else-parts-le1
returns-else-parts-le1 c =
    let same = length-map c.args.parts.now part_tree in
    let many = c.if-parts-le1.false in
    let each = declared_of_map c.args.parts.now in (
      λ h. (omega (arith, same, c.if-parts-le-MOST_ENTRIES.true), inr (each.1 (c.all_declare.ensures.0 h))),
      λ h. elim h.1 [ inl one ↦ absurd (omega (arith, same, many, one)) | inr all ↦ c.all_declare.ensures.1 (each.0 all) ],
    )
