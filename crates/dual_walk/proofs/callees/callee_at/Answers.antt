use Rattle.std.proofs.Common.{◌<◌, length, None, arith}
use Rattle.std.proofs.lemmas.Option.{slice_get-get_or}
use Rattle.dual_walk.proofs.callees.callee_at.Goals as goal

pub returns : goal.returns
returns c = c.requires.prepared.callees.each c.args.point _ (slice_get-get_or c.args.both.now.callees.now c.args.point None within)
  where
    within : c.args.point < length c.args.both.now.callees.now
    within = let points = c.requires.prepared.callees.points in let point = c.requires.point in omega (arith, points, point)
