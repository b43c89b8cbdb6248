use Rattle.points_report.proofs.Told.{text_told}
use Rattle.points_report.proofs.report.points_text.Goals as goal

pub returns : goal.returns
returns c P ok =
    text_told P c.args.source.now c.in_ok-text.text.items c.push_points.new.text.items c.push_end_line.new.text.items c.points.result c.edges.result
    (c.in_ok-text.ensures.items_if_clones_equal (λ x y same. same)) (c.in_ok-push_points.ensures P ok c.in_ok-lines.ensures) c.in_ok-push_end_line.ensures (c.points.ensures.listed P ok) (c.edges.ensures.listed P ok)
