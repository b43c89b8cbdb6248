use Rattle.std.proofs.Common.{◌++◌, map, sym, ◌∙◌}
use Rattle.std.proofs.lemmas.Bool.{eqb-true}
use Rattle.test_order.specs.Orders.{IsOrder}
use Rattle.test_order.specs.Counts.{without_gain}
use Rattle.test_order.proofs.TurnLemmas.{ok_placed, turn_none, turn_rows, turn_stand, turn_end, turn_within, turn_join, turn_more, turn_smaller, turn_rest}
use Rattle.test_order.proofs.ordering.order.Goals as goal

pub loop-entries-init : goal.loop-entries-init
loop-entries-init g c =
    turn_none c.entries-entries.result.now c.args.history.now.entries c.args.choices.now c.edges.result c.args.history.now.edges c.in_ok-covered.covered c.in_ok-placed.placed.items c.in_ok-waiting.waiting.items
    c.entries-entries.ensures.value c.entries-entries.ensures.rows c.requires.choices c.edges.ensures c.in_ok-covered.ensures c.in_ok-placed.ensures.items c.in_ok-waiting.ensures

pub next_place-requires-clause-stand : goal.next_place-requires-clause-stand
next_place-requires-clause-stand g c κs within = turn_stand c.loop-entries.invariant c.deref.result.now c.deref.ensures.value

pub next_place-requires-clause-rows : goal.next_place-requires-clause-rows
next_place-requires-clause-rows g c κs within = turn_rows c.loop-entries.invariant

pub returns-then-next-eq0 : goal.returns-then-next-eq0
returns-then-next-eq0 g c =
    ok_placed (IsOrder c.args.history.now.entries c.args.choices.now) (c.loop-entries.placed.items ++ map without_gain c.deref-then-next-eq0.result.now) c.place_rest.result c.place_rest.ensures
    (turn_rest c.loop-entries.invariant c.in_ok-next.next c.deref.result.now c.deref.ensures.value c.in_ok-next.ensures c.if-next-eq0.true
    c.deref-then-next-eq0.result.now c.deref-then-next-eq0.ensures.value c.args.history.now.entries c.entries-entries.ensures.value)

pub bounds-entries-next : goal.bounds-entries-next
bounds-entries-next g c = turn_within c.loop-entries.invariant c.in_ok-next.next c.deref.result.now c.deref.ensures.value c.in_ok-next.ensures

pub join-requires : goal.join-requires
join-requires g c =
    turn_join c.loop-entries.invariant c.in_ok-next.next c.deref.result.now c.deref.ensures.value c.in_ok-next.ensures
    c.index-entries-next.result c.crossed.result.now c.index-entries-next.is c.crossed.ensures

pub loop-entries-smaller : goal.loop-entries-smaller
loop-entries-smaller g c =
    turn_smaller c.loop-entries.invariant c.in_ok-next.next c.deref.result.now c.deref.ensures.value c.in_ok-next.ensures c.take_out.new.waiting.items c.take_out.ensures

pub loop-entries-preserved : goal.loop-entries-preserved
loop-entries-preserved g c =
    turn_more c.loop-entries.invariant c.in_ok-next.next c.deref.result.now c.deref.ensures.value c.in_ok-next.ensures
    c.index-entries-next.result c.crossed.result.now c.index-entries-next.is c.crossed.ensures
    c.join.new.self c.push.new.self.items c.take_out.new.waiting.items c.join.ensures.value c.in_ok-push.ensures.items c.take_out.ensures

pub returns : goal.returns
returns g c =
    turn_end c.loop-entries.invariant (sym c.loop-entries.waiting.ok.0 ∙ eqb-true c.loop-entries.waiting.len 0 (sym c.is_empty.ensures ∙ c.loop-entries-test.false))
    c.args.history.now.entries c.entries-entries.ensures.value
