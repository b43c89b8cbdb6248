use Rattle.csub_semantics.specs.Points.{exit_tree}
use Rattle.csub_semantics.specs.Numbers.{site}
use Rattle.edge_images.proofs.Leaving.{image_found}
use Rattle.edge_images.proofs.finding.image_by.Goals as goal

pub returns : goal.returns
returns c P P' ok ok' named leaves =
    image_found P P' c.args.new.now ok' c.args.from c.args.edge named leaves (exit_tree c.edge_at.result.exit.now) (c.edge_at.ensures.exit P leaves.edge ok leaves.numbered) c.edge_number.result
    c.edge_number.ensures.within (c.edge_number.ensures.number P' (site named.name named.other) ok' named.new)
