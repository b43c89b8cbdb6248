use Rattle.std.proofs.Common.{◌∙◌, ◌<◌, length, get_or, arith}
use Rattle.std.proofs.lemmas.Option.{slice_get-get_or}
use Rattle.edge_images.specs.declared.image.Image.TheVariants.{Absent}
use Rattle.carry_history.proofs.MoveLemmas.{images_more}
use Rattle.carry_history.proofs.moving.move_row.Goals as goal

pub loop-edge-preserved : goal.loop-edge-preserved
loop-edge-preserved c =
    let images = c.args.images.now in
    let edge = c.loop-edge.edge in
    let within : edge < length images = omega (arith, c.requires.images, c.loop-edge-test.true, c.edges-edge-end.ensures) in
    record {
      edges = c.move_edge.ensures.edges ∙ c.loop-edge.invariant.edges;
      images =
          images_more images c.args.crossed.now c.loop-edge.moved c.move_edge.new.moved edge (get_or images edge Absent) (slice_get-get_or images edge Absent within)
          c.loop-edge.invariant.images c.move_edge.ensures.adds;
    }
