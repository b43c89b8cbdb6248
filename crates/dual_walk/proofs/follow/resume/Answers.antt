use Rattle.std.proofs.Common.{◌≡◌, ℕ, List, length, ◌+◌, ◌<◌, ◌≤◌, get_or, Some, refl, sym, ap, ◌∙◌, subst, ◌⊎◌, inl, inr, arith, true≢false}
use Rattle.std.specs.Prelude.{slice_get}
use Rattle.std.proofs.lemmas.Bool.{cases_eq, cases_lt}
use Rattle.std.proofs.lemmas.Option.{slice_get_within, slice_get-get_or, get_or_from_slice_get, same_Some}
use Rattle.csub_semantics.specs.Points.{exit, next}
use Rattle.csub_semantics.specs.Syntax.{ProgramTree}
use Rattle.csub_semantics.specs.Numbers.{Site, site}
use Rattle.flow_graph.specs.Graph.{IsGraphOf}
use Rattle.dual_walk.specs.declared.fact.Fact.{Fact}
use Rattle.dual_walk.specs.Books.{IsNamed}
use Rattle.dual_walk.specs.Rows.{Lists}
use Rattle.dual_walk.specs.Moments.{WaitsFor, PassesOver, HoldsNext}
use Rattle.dual_walk.specs.Held.{Extends}
use Rattle.dual_walk.proofs.LawsLists.{in_row}
use Rattle.dual_walk.proofs.LawsFacts.{get_extends, get_back, extends_more, extends_long, at_named, extends_none}
use Rattle.dual_walk.proofs.RowLemmas.{cleared_long, cleared_none, cleared_kept, cleared_fewer}
use Rattle.dual_walk.proofs.Following.{holds_extends, moment_named, waiting_extends, waiting_fewer}
use Rattle.dual_walk.proofs.Counting.{cleared_count, row_within}
use Rattle.dual_walk.proofs.follow.resume.Goals as goal

-- a call that waits for the exits at which a fact stands
waits_over : (P P' : ProgramTree) (before after : List Fact) (j at : ℕ) (from : Fact) → Extends before after → slice_get before at ≡ Some from → (n : IsNamed P P' from) → n.point ≡ exit → n.other ≡ exit → WaitsFor P P' before from.old j → PassesOver P P' after j at
waits_over P P' before after j at from grows stands n is is' w =
    let same : n.name ≡ w.callee = ap (λ (s : Site). s.function) (same_Some (site n.name n.point) (site w.callee exit) (sym n.old ∙ w.exit)) in
    record {
      call = w.fact;
      stands = get_extends grows j w.fact w.stands;
      back = from;
      stands' = get_extends grows at from stands;
      comes = record {
        function = w.function;
        point = w.point;
        other = w.other;
        at = w.at;
        callee = w.callee;
        calls = w.calls;
        exits = record { old = w.exit; new = n.new ∙ ap (λ q. Some (site n.name q)) is' ∙ ap (λ f. Some (site f exit)) same };
      };
    }

pub pass_over-requires-clause-at : goal.pass_over-requires-clause-at
pass_over-requires-clause-at g c =
    let l = c.requires.waiting.below c.args.from.old (get_or c.row-call-items.result.now c.loop-call.call-index 0) (record { row = c.row-call-items.result.now; stands = c.row-call-items.ensures; place = c.loop-call.call-index; is = slice_get-get_or c.row-call-items.result.now c.loop-call.call-index 0 c.loop-call-test.true }) in
    let m = extends_long c.loop-call.invariant.grows in
    omega (arith, l, m)

pub pass_over-requires-clause-over : goal.pass_over-requires-clause-over
pass_over-requires-clause-over g c P P' ok ok' =
    let n = moment_named c.args.both.now.old.now c.args.both.now.new.now c.args.pairs.now c.requires.moment P P' ok ok' c.args.at c.args.from c.requires.stands in
    let exits = (c.if-not-are_exits.ensures P P' n.name n.point n.other ok ok' (at_named P P' c.args.from n)).0 refl in
    waits_over P P' c.args.pairs.now.facts.items c.loop-call.pairs.facts.items (get_or c.row-call-items.result.now c.loop-call.call-index 0) c.args.at c.args.from c.loop-call.invariant.grows c.requires.stands n exits.0 exits.1
    (c.requires.waiting.sound P P' ok ok' c.args.from.old (get_or c.row-call-items.result.now c.loop-call.call-index 0) (record { row = c.row-call-items.result.now; stands = c.row-call-items.ensures; place = c.loop-call.call-index; is = slice_get-get_or c.row-call-items.result.now c.loop-call.call-index 0 c.loop-call-test.true }))

pub loop-call-preserved : goal.loop-call-preserved
loop-call-preserved g c = record {
  moment = c.pass_over.ensures.moment;
  upto = let test = c.loop-call-test.true in omega (arith, test);
  cost = let before = c.loop-call.invariant.cost in let one = c.pass_over.ensures.cost in omega (arith, before, one);
  counted = let before = c.loop-call.invariant.counted in let one = c.pass_over.ensures.counted in omega (arith, before, one);
  grows = extends_more c.loop-call.invariant.grows c.pass_over.ensures.grows;
  held = λ P P' ok ok' k j d l get stands. held_case P P' ok ok' k j d l get stands (cases_lt k c.loop-call.call-index);
}
  where
    held_case : (P P' : ProgramTree) → IsGraphOf c.args.both.now.old.now P → IsGraphOf c.args.both.now.new.now P' → (k j : ℕ) (d : Fact) → k < c.loop-call.call-index + 1 → slice_get c.row-call-items.result.now k ≡ Some j → slice_get c.args.pairs.now.facts.items j ≡ Some d → (k < c.loop-call.call-index) ⊎ (c.loop-call.call-index ≤ k) → HoldsNext P P' c.pass_over.new.pairs.facts.items d next
    held_case P P' ok ok' k j d l get stands (inl h) = holds_extends P P' d next c.pass_over.ensures.grows (c.loop-call.invariant.held P P' ok ok' k j d h get stands)
    held_case P P' ok ok' k j d l get stands (inr h) =
        let same : k ≡ c.loop-call.call-index = omega arith in
        let is : get_or c.row-call-items.result.now c.loop-call.call-index 0 ≡ j = get_or_from_slice_get c.row-call-items.result.now c.loop-call.call-index j 0 (subst (λ n. slice_get c.row-call-items.result.now n ≡ Some j) same get) in
        c.in_ok-pass_over.ensures.held P P' d ok ok' (ap (slice_get c.loop-call.pairs.facts.items) is ∙ get_extends c.loop-call.invariant.grows j d stands)

pub returns-clause-waiting : goal.returns-clause-waiting
returns-clause-waiting g c =
    waiting_extends c.args.both.now.old.now c.args.both.now.new.now c.clear.new.self c.loop-call.invariant.grows
    (waiting_fewer c.args.both.now.old.now c.args.both.now.new.now c.args.pairs.now.facts.items c.args.waiting.now c.clear.new.self c.requires.waiting (cleared_long c.args.waiting.now c.clear.new.self c.args.from.old within c.clear.ensures) (cleared_fewer c.args.waiting.now c.clear.new.self c.args.from.old within c.clear.ensures))
  where
    within : c.args.from.old < length c.args.waiting.now
    within = slice_get_within c.args.waiting.now c.args.from.old c.row-call-items.result.now c.row-call-items.ensures

pub returns-clause-resumed : goal.returns-clause-resumed
returns-clause-resumed g c P P' ok ok' = record {
  left = λ k j d listed stands. left_case k j d listed stands (cases_eq k c.args.from.old);
  none = λ f j at. cleared_none c.args.waiting.now c.clear.new.self c.args.from.old within c.clear.ensures j;
}
  where
    within : c.args.from.old < length c.args.waiting.now
    within = slice_get_within c.args.waiting.now c.args.from.old c.row-call-items.result.now c.row-call-items.ensures

    left_case : (k j : ℕ) (d : Fact) → Lists c.args.waiting.now k j → slice_get c.loop-call.pairs.facts.items j ≡ Some d → (k ≡ c.args.from.old) ⊎ (k ≡ c.args.from.old → ⊥) → Lists c.clear.new.self k j ⊎ HoldsNext P P' c.loop-call.pairs.facts.items d next
    left_case k j d listed stands (inl same) =
        let n = in_row c.args.waiting.now c.args.from.old j c.row-call-items.result.now c.row-call-items.ensures (subst (λ m. Lists c.args.waiting.now m j) same listed) in
        let w = slice_get_within c.row-call-items.result.now n.0 j n.1 in
        let test = c.loop-call-test.false in
        let before = get_back c.loop-call.invariant.grows j d (c.requires.waiting.below k j listed) stands in
        inr (c.loop-call.invariant.held P P' ok ok' n.0 j d (omega (arith, w, test)) n.1 before)
    left_case k j d listed stands (inr other) = inl (cleared_kept c.args.waiting.now c.clear.new.self c.args.from.old within c.clear.ensures k j other listed)

pub returns-then-not-are_exits-clause-resumed : goal.returns-then-not-are_exits-clause-resumed
returns-then-not-are_exits-clause-resumed g c P P' ok ok' = record {
  left = λ k j d listed stands. inl listed;
  none = λ f j at listed. absurd (true≢false (sym ((c.if-not-are_exits.ensures P P' f exit exit ok ok' at).1 (refl, refl))));
}

pub returns-clause-cost : goal.returns-clause-cost
returns-clause-cost g c =
    let cost = c.loop-call.invariant.cost in
    let upto = c.loop-call.invariant.upto in
    let row = row_within c.args.waiting.now c.args.from.old c.row-call-items.result.now c.row-call-items.ensures in
    omega (arith, cost, upto, row)

pub returns-clause-left : goal.returns-clause-left
returns-clause-left g c =
    let cost = c.loop-call.invariant.cost in
    let upto = c.loop-call.invariant.upto in
    let within = slice_get_within c.args.waiting.now c.args.from.old c.row-call-items.result.now c.row-call-items.ensures in
    let less = cleared_count c.args.waiting.now c.clear.new.self c.args.from.old within c.row-call-items.result.now c.row-call-items.ensures c.clear.ensures in
    omega (arith, cost, upto, less)

pub pass_over-requires-clause-room : goal.pass_over-requires-clause-room
pass_over-requires-clause-room g c =
    let cost = c.loop-call.invariant.cost in
    let test = c.loop-call-test.true in
    let room = c.requires.room in
    let row = row_within c.args.waiting.now c.args.from.old c.row-call-items.result.now c.row-call-items.ensures in
    omega (arith, cost, test, room, row)

pub returns-in_err-pass_over-clause-cost : goal.returns-in_err-pass_over-clause-cost
returns-in_err-pass_over-clause-cost g c =
    let cost = c.loop-call.invariant.cost in
    let one = c.pass_over.ensures.cost in
    let test = c.loop-call-test.true in
    let row = row_within c.args.waiting.now c.args.from.old c.row-call-items.result.now c.row-call-items.ensures in
    omega (arith, cost, one, test, row)

pub loop-call-init : goal.loop-call-init
loop-call-init g c = record {
  moment = c.requires.moment;
  upto = omega arith;
  cost = omega arith;
  counted = refl;
  grows = extends_none;
  held = λ P P' ok ok' k j d l get stands. absurd (omega (arith, l));
}

pub returns-then-not-are_exits-clause-grows : goal.returns-then-not-are_exits-clause-grows
returns-then-not-are_exits-clause-grows g c = extends_none

pub returns-in_err-pass_over-clause-grows : goal.returns-in_err-pass_over-clause-grows
returns-in_err-pass_over-clause-grows g c = extends_more c.loop-call.invariant.grows c.pass_over.ensures.grows

pub returns-in_err-pass_over-clause-counted : goal.returns-in_err-pass_over-clause-counted
returns-in_err-pass_over-clause-counted g c =
    let before = c.loop-call.invariant.counted in
    let one = c.pass_over.ensures.counted in
    omega (arith, before, one)
