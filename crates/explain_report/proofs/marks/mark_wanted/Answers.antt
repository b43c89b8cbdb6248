use Rattle.std.proofs.Common.{◌<◌, get_or, length, arith}
use Rattle.explain_report.proofs.MarkLemmas.{adds_next}
use Rattle.explain_report.proofs.marks.mark_wanted.Goals as goal

pub loop-place-preserved : goal.loop-place-preserved
loop-place-preserved c =
    let wanted = c.args.wanted.now in
    let at = c.loop-place.place-index in
    let long = c.loop-place.invariant.long in
    let before = c.requires at 0 c.loop-place-test.true in
    let below : get_or wanted at 0 < length c.loop-place.marks = omega (arith, before, long) in
    adds_next c.args.marks.now c.loop-place.marks wanted at 0 c.loop-place-test.true below c.loop-place.invariant
