use Rattle.std.proofs.Common.{◌≡◌, ◌∙◌, ℕ, ℤ, ◌+◌, ◌-◌, ◌<◌, cond, length, Option, Some, ap, arith}
use Rattle.csub_semantics.specs.Points.{exit_tree, exit_eq, on_case}
use Rattle.flow_graph.specs.Cases.{place_in}
use Rattle.flow_graph.proofs.FirstPlaces.{found_more, within_more}
use Rattle.flow_graph.proofs.CasePlaces.{is_by}
use Rattle.flow_graph.proofs.case_table.enter_ways.Goals as goal

pub loop-i-preserved : goal.loop-i-preserved
loop-i-preserved c = record {
  found = found_more is_by c.args.ways.now c.loop-i.i (c.loop-i.i - 1) c.index-ways-i.result next inside c.index-ways-i.is before after taken c.loop-i.invariant.found;
  within = within_more is_by c.args.ways.now c.loop-i.i (c.loop-i.i - 1) c.index-ways-i.result next inside c.index-ways-i.is before after taken c.loop-i.invariant.within;
  others = λ n v other. c.in_ok-enter_way.ensures.others n v other ∙ c.loop-i.invariant.others n v other;
}
  where
    before : ℤ → Option ℕ
    before = place_in c.loop-i.cases c.args.point

    after : ℤ → Option ℕ
    after = place_in c.enter_way.new.cases c.args.point

    next : c.loop-i.i - 1 + 1 ≡ c.loop-i.i
    next = let some = c.loop-i-test.true in omega arith

    inside : c.loop-i.i - 1 < length c.args.ways.now
    inside = let some = c.loop-i-test.true in let most = c.loop-i.auto.i in omega arith

    taken : (v : ℤ) → after v ≡ cond (exit_eq (exit_tree c.index-ways-i.result.exit) (on_case v)) (Some (c.loop-i.i - 1)) (before v)
    taken v = c.in_ok-enter_way.ensures.own v ∙ ap (λ (n : ℕ). cond (exit_eq (exit_tree c.index-ways-i.result.exit) (on_case v)) (Some n) (before v)) c.in_ok-place.ensures
