use Rattle.std.proofs.Common.{◌≡◌, ◌<◌, ◌+◌, ◌-◌, length, subst, arith}
use Rattle.std.proofs.lemmas.Option.{slice_get-get_or}
use Rattle.explain_report.proofs.MarkLemmas.{rest_within, MarkedFrom, marked_none, marked_over, marked_more, marked_all}
use Rattle.explain_report.proofs.marks.mark_rest.Goals as goal

pub loop-place-init : goal.loop-place-init
loop-place-init c wanted is = marked_none c.args.facts.now wanted c.args.marks.now c.requires.long is

pub mark_named-requires : goal.mark_named-requires
mark_named-requires c =
    let before : c.loop-place.place - 1 < length c.args.facts.now = omega arith in
    rest_within c.args.facts.now (c.loop-place.place - 1) (length c.loop-place.marks) _ c.requires.earlier before (omega arith)

pub loop-place-preserved-then-marks-place : goal.loop-place-preserved-then-marks-place
loop-place-preserved-then-marks-place c wanted is =
    let facts = c.args.facts.now in
    let at = c.loop-place.place - 1 in
    let next : c.loop-place.place ≡ at + 1 = omega arith in
    let within : at < length facts = omega arith in
    marked_more facts wanted c.loop-place.marks c.mark_named.new.marks at _ c.requires.earlier (slice_get-get_or facts at _ within) c.if-marks-place.true
    c.mark_named.ensures (subst (MarkedFrom facts wanted c.loop-place.marks) next (c.loop-place.invariant wanted is))

pub loop-place-preserved : goal.loop-place-preserved
loop-place-preserved c wanted is =
    let at = c.loop-place.place - 1 in
    let next : c.loop-place.place ≡ at + 1 = omega arith in
    marked_over c.args.facts.now wanted c.loop-place.marks at c.if-marks-place.false
    (subst (MarkedFrom c.args.facts.now wanted c.loop-place.marks) next (c.loop-place.invariant wanted is))

pub returns : goal.returns
returns c wanted is =
    let none : c.loop-place.place ≡ 0 = omega arith in
    marked_all c.args.facts.now wanted c.loop-place.marks (subst (MarkedFrom c.args.facts.now wanted c.loop-place.marks) none (c.loop-place.invariant wanted is))
