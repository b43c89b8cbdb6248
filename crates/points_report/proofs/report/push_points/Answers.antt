use Rattle.std.proofs.Common.{◌<◌, length, arith}
use Rattle.csub_semantics.specs.Flows.{point_list}
use Rattle.points_report.proofs.Numbers.{element}
use Rattle.points_report.proofs.Told.{points_next, points_last}
use Rattle.points_report.proofs.report.push_points.Goals as goal

pub loop-point-preserved : goal.loop-point-preserved
loop-point-preserved c P ok table =
    let p = c.loop-point.point in
    let counted = c.points-point-end.ensures.listed P ok in
    let within : p < length (point_list P) = omega (arith, counted) in
    let n = element (point_list P) p within in
    points_next P c.args.source.now p n.0 c.loop-point.text.items c.push_point_line.new.text.items c.push_edge_lines.new.text.items _ n.1
    (c.in_ok-push_point_line.ensures P n.0 ok table n.1) (c.in_ok-push_edge_lines.ensures P n.0 ok n.1) (c.loop-point.invariant P ok table)

pub returns : goal.returns
returns c P ok table =
    let counted = c.points-point-end.ensures.listed P ok in
    points_last P c.args.source.now c.loop-point.point _ _ (omega (arith, counted)) (c.loop-point.invariant P ok table)
