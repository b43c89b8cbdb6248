use Rattle.std.proofs.Common.{◌<◌, ◌^◌, ◌∙◌, arith}
use Rattle.flow_graph.specs.Graph.{edge_count, point_count}
use Rattle.dual_walk.proofs.Resting.{few_product, none_rests}
use Rattle.dual_walk.proofs.walking.Walk.new.Goals as goal

pub returns-clause-rests : goal.returns-clause-rests
returns-clause-rests c =
    let most = c.edges.ensures.value in
    let others = c.points-4.ensures.value in
    let edges : edge_count c.args.old.now < 2 ^ 32 = omega (arith, most) in
    let points : point_count c.args.new.now < 2 ^ 32 = omega (arith, others) in
    none_rests c.args.old.now c.args.new.now c.in_ok-pairs.pairs c.in_ok-waiting.waiting c.in_ok-pairs.ensures.facts (c.in_ok-pairs.ensures.height ∙ c.points.ensures.value) (c.in_ok-pairs.ensures.width ∙ c.points-2.ensures.value)
    c.points-3.result c.in_ok-waiting.ensures c.points-3.ensures.value (few_product (edge_count c.args.old.now) (point_count c.args.new.now) edges points)
