use Rattle.std.proofs.Common.{◌<◌, length, refl, ap, ◌∙◌, inl, inr, arith}
use Rattle.std.specs.Prelude.{slice_set}
use Rattle.std.proofs.lemmas.List.{get_or_default}
use Rattle.edge_images.specs.declared.image.Image.TheVariants.{Absent}
use Rattle.edge_images.specs.Partly.{with_edge}
use Rattle.edge_images.proofs.finding.note_edge.Goals as goal

pub returns-in-Some-clause-notes : goal.returns-in-Some-clause-notes
returns-in-Some-clause-notes c P P' ok ok' =
    let before = c.args.images.now.items in
    let within : c.args.edge < length before = omega (arith, c.requires.edge, c.requires.edges) in
    let was = c.index.ensures ∙ get_or_default before c.args.edge _ Absent within in
    inl (
      c.in-Some.image,
      c.in-Some.ensures P P' ok ok' (c.requires.named P P' ok ok') (c.requires.leaves P ok),
      ap (slice_set before c.args.edge) (c.with.ensures ∙ ap (λ answer. with_edge answer c.in-Some.image) was),
    )

pub returns-in_default-clause-notes : goal.returns-in_default-clause-notes
returns-in_default-clause-notes c P P' ok ok' = inr (c.in_default.ensures P P' ok ok' (c.requires.named P P' ok ok') (c.requires.leaves P ok), refl)
