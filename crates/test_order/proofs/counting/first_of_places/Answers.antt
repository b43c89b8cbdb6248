use Rattle.std.proofs.Common.{take, get_or, subst}
use Rattle.std.proofs.lemmas.Bool.{MatchBool-at_true, MatchBool-at_false}
use Rattle.std.proofs.lemmas.List.{take_more, take_all}
use Rattle.test_order.specs.Counts.{IsFirstOf}
use Rattle.test_order.proofs.FirstLemmas.{first_of_one, first_keeps, first_takes}
use Rattle.test_order.proofs.counting.first_of_places.Goals as goal
use Rattle.test_order.proofs.counting.first_of_places.Goals.{then-is_behind, else-is_behind}

pub loop-i-init : goal.loop-i-init
loop-i-init c =
    rw (take_more c.args.places.now 0 (record { at = 0; gain = 0 }) c.requires) (first_of_one (get_or c.args.places.now 0 (record { at = 0; gain = 0 })))

pub loop-i-preserved : goal.loop-i-preserved
loop-i-preserved c =
    let more = take_more c.args.places.now c.loop-i.i (record { at = 0; gain = 0 }) c.loop-i-test.true in
    elim c.if-is_behind.branch [
      | then-is_behind w ↦ rw (more, w.first-is) (first_takes (take c.loop-i.i c.args.places.now) c.loop-i.first (get_or c.args.places.now c.loop-i.i (record { at = 0; gain = 0 })) c.loop-i.invariant (MatchBool-at_true _ _ w.if-is_behind.true c.is_behind.ensures))
      | else-is_behind w ↦ rw (more, w.first-is) (first_keeps (take c.loop-i.i c.args.places.now) c.loop-i.first (get_or c.args.places.now c.loop-i.i (record { at = 0; gain = 0 })) c.loop-i.invariant (MatchBool-at_false _ _ w.if-is_behind.false c.is_behind.ensures))
    ]

pub returns : goal.returns
returns c = subst (λ places. IsFirstOf places c.loop-i.first) (take_all c.loop-i.i c.args.places.now c.loop-i-test.false) c.loop-i.invariant
