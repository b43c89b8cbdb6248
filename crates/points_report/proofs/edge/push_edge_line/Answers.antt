use Rattle.std.proofs.Common.{◌≡◌, ◌<◌, ◌++◌, ◌∷◌, [], length, subst, arith}
use Rattle.std.specs.Prelude.{OnOk}
use Rattle.csub_semantics.specs.Points.{exit_tree}
use Rattle.csub_semantics.specs.Flows.{point_list, flow_of}
use Rattle.flow_graph.proofs.LawsPlaces.{points_counted}
use Rattle.points_report.proofs.Numbers.{target_told}
use Rattle.points_report.proofs.Told.{edge_parts}
use Rattle.points_report.proofs.edge.push_edge_line.Goals as goal

pub returns : goal.returns
returns c P e ok numbered =
    let counted = points_counted c.args.graph.now P ok in
    let within = c.edge_at-ends.ensures.to_within in
    let there : c.edge_at-ends.result.to < length (point_list P) = omega (arith, counted, within) in
    let told = target_told P e.function ((flow_of P).succ e.function e.from e.exit) c.edge_at-ends.result.to ok.valid there (c.edge_at-ends.ensures.to P e ok numbered) in
    subst (λ line. OnOk c.push_edge_parts.result (c.push_edge_parts.new.text.items ≡ c.args.text.now.items ++ line ++ 10 ∷ []))
    (edge_parts P c.args.point c.args.edge c.edge_at-ends.result.to e (exit_tree c.edge_at-ends.result.exit.now) (c.edge_at-ends.ensures.exit P e ok numbered) told)
    c.push_edge_parts.ensures
