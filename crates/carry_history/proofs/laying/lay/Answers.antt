use Rattle.std.specs.Vec.Iter.{into_iter_items}
use Rattle.carry_history.proofs.LayLemmas.{laid_all}
use Rattle.carry_history.proofs.laying.lay.Goals as goal

pub returns : goal.returns
returns c =
    laid_all c.args.edges c.args.images.now c.args.entries.now c.args.stays.now c.args.results.items c.loop-place.laid.items (into_iter_items c.loop-place.results) c.loop-place.place
    c.requires.stays c.loop-place-test.false c.loop-place.invariant.left c.loop-place.invariant.laid
