use Rattle.std.proofs.Common.{arith}
use Rattle.csub_semantics.specs.Points.{exit_tree}
use Rattle.csub_semantics.specs.Syntax.{program_tree}
use Rattle.flow_graph.proofs.LawsPlaces.{points_counted}
use Rattle.csub_flat.specs.Sites.{place_of}
use Rattle.csub_flat.proofs.LawsSites.{place_is}
use Rattle.csub_flat.proofs.WayLemmas.{way_is, way_is_not}
use Rattle.csub_flat.proofs.ways.way_along.Goals as goal

pub way_out-requires : goal.way_out-requires
way_out-requires c = let count = points_counted c.args.graph.now (program_tree c.args.program.now) c.requires.graph in omega arith

pub returns-clause-none : goal.returns-clause-none
returns-clause-none c =
    let P = program_tree c.args.program.now in
    let n = c.args.point in
    way_is_not P n (exit_tree c.args.exit.now) c.way_out.result (c.way_out.ensures.leads P (place_of P n) c.requires.graph (place_is P n c.requires.point))

pub returns-clause-some : goal.returns-clause-some
returns-clause-some c =
    let P = program_tree c.args.program.now in
    let n = c.args.point in
    let here = place_is P n c.requires.point in
    way_is c.args.graph.now P c.requires.graph n (exit_tree c.args.exit.now) c.way_out.result (c.way_out.ensures.leads P (place_of P n) c.requires.graph here) (c.way_out.ensures.number P (place_of P n) c.requires.graph here)
    c.way_out.ensures.to_within c.way_out.ensures.edge_within
