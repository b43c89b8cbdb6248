use Rattle.std.proofs.Common.{IsTrue, ◌↔◌, arith}
use Rattle.std.proofs.lemmas.List.{get_or_default}
use Rattle.carry_history.specs.Carried.{Stays}
use Rattle.carry_history.proofs.StayLemmas.{flags_more, flags_all}
use Rattle.carry_history.proofs.staying.list_stays.Goals as goal

pub loop-place-preserved : goal.loop-place-preserved
loop-place-preserved c =
    let said = c.stays.ensures c.args.images.now c.in_ok-unsettled.ensures in
    rw c.in_ok-push.ensures.items
    (flags_more (λ both stay. IsTrue stay ↔ Stays c.args.images.now both.0 both.1) c.args.entries.now c.args.choices.now c.loop-place.flags.items c.loop-place.place c.index-entries-place.result _ c.stays.result
    c.requires.choices c.loop-place-test.true c.index-entries-place.is (get_or_default c.args.choices.now c.loop-place.place _ _ (omega (arith, c.requires.choices, c.loop-place-test.true))) c.loop-place.invariant said)

pub returns : goal.returns
returns c =
    flags_all (λ both stay. IsTrue stay ↔ Stays c.args.images.now both.0 both.1) c.args.entries.now c.args.choices.now c.loop-place.flags.items c.loop-place.place c.requires.choices c.loop-place-test.false c.loop-place.invariant
