use Rattle.std.proofs.Common.{◌≡◌, ℕ, ◌+◌, ◌-◌, ◌<◌, ◌≤◌, refl, ap, ◌∙◌, subst, ◌⊎◌, inl, inr, arith}
use Rattle.std.specs.declared.ops.Range.{Range}
use Rattle.std.proofs.lemmas.Bool.{cases_lt}
use Rattle.csub_semantics.specs.Points.{exit_tree}
use Rattle.csub_semantics.specs.Syntax.{ProgramTree}
use Rattle.csub_semantics.specs.Numbers.{edge_at}
use Rattle.flow_graph.specs.Graph.{IsGraphOf, point_count}
use Rattle.dual_walk.specs.Books.{LeavesFrom}
use Rattle.dual_walk.specs.Moments.{HoldsNext}
use Rattle.dual_walk.proofs.LawsLists.{contains_at}
use Rattle.dual_walk.proofs.LawsFacts.{get_extends, extends_none, extends_more}
use Rattle.dual_walk.proofs.LawsNumbers.{edge_of, own_leaves, leaves_own}
use Rattle.dual_walk.proofs.Asked.{leads_along}
use Rattle.dual_walk.proofs.Explaining.{step_explained}
use Rattle.dual_walk.proofs.Following.{holds_extends, moment_named}
use Rattle.dual_walk.proofs.follow.take_steps.Goals as goal

pub edges_of-edge-items-requires : goal.edges_of-edge-items-requires
edges_of-edge-items-requires g c = (c.requires.moment.book.within c.args.at c.args.from c.requires.stands).old

pub loop-edge-init : goal.loop-edge-init
loop-edge-init g c = record {
  can = tt;
  finite = tt;
  moment = c.requires.moment;
  upto = let within = c.edges_of-edge-items.ensures.within.0 in omega (arith, starts, ends, within);
  within = let within = c.edges_of-edge-items.ensures.within.1 in omega (arith, ends, within);
  cost = let count = c.edges_of-edge-items.ensures.count in omega (arith, starts, ends, count);
  counted = refl;
  grows = extends_none;
  own = λ P ok e from upto. own_leaves c.args.both.now.old.now c.args.from.old c.edges_of-edge-items.result.start c.edges_of-edge-items.result.end c.edges_of-edge-items.ensures.edges P ok e within (omega (arith, starts, from)) (omega (arith, ends, upto));
  all = λ P ok e leaves. let own = (leaves_own c.args.both.now.old.now c.args.from.old c.edges_of-edge-items.result.start c.edges_of-edge-items.result.end c.edges_of-edge-items.ensures.edges P ok e leaves).1 in omega (arith, ends, own);
  held = λ P P' ok ok' e before leaves. let own = (leaves_own c.args.both.now.old.now c.args.from.old c.edges_of-edge-items.result.start c.edges_of-edge-items.result.end c.edges_of-edge-items.ensures.edges P ok e leaves).0 in absurd {A = HoldsNext P P' c.args.pairs.now.facts.items c.args.from leaves.edge.exit} (omega (arith, starts, before, own));
}
  where
    within : c.args.from.old < point_count c.args.both.now.old.now
    within = (c.requires.moment.book.within c.args.at c.args.from c.requires.stands).old

    starts : c.into_iter-edge-iterator.result.start ≡ c.edges_of-edge-items.result.start
    starts = ap (λ (r : Range ℕ). r.start) c.into_iter-edge-iterator.ensures.into_iter_gives

    ends : c.into_iter-edge-iterator.result.end ≡ c.edges_of-edge-items.result.end
    ends = ap (λ (r : Range ℕ). r.end) c.into_iter-edge-iterator.ensures.into_iter_gives

pub edge_at-to-requires : goal.edge_at-to-requires
edge_at-to-requires g c =
    let is = c.in-Some.ensures.steps.1.1 in
    let more = c.in-Some.ensures.steps.1.0 in
    let within = c.loop-edge.invariant.within in
    omega (arith, is, more, within)

pub advance-requires-clause-among : goal.advance-requires-clause-among
advance-requires-clause-among g c = contains_at c.loop-edge.pairs.facts.items c.args.at c.args.from (get_extends c.loop-edge.invariant.grows c.args.at c.args.from c.requires.stands)

pub advance-requires-clause-leads : goal.advance-requires-clause-leads
advance-requires-clause-leads g c P s ok at =
    let is = c.in-Some.ensures.steps.1.1 in
    let more = c.in-Some.ensures.steps.1.0 in
    let leaves = c.loop-edge.invariant.own P ok c.in-Some.edge (omega (arith, is)) (omega (arith, is, more)) in
    leads_along P c.in-Some.edge c.args.from.old c.edge_at-to.result.to (exit_tree c.edge_at-to.result.exit.now) s leaves (c.edge_at-to.ensures.exit P leaves.edge ok leaves.numbered) (c.edge_at-to.ensures.to P leaves.edge ok leaves.numbered) at

pub advance-requires-clause-why : goal.advance-requires-clause-why
advance-requires-clause-why g c P P' ok ok' f p p' at pair t =
    let is = c.in-Some.ensures.steps.1.1 in
    let more = c.in-Some.ensures.steps.1.0 in
    let leaves = c.loop-edge.invariant.own P ok c.in-Some.edge (omega (arith, is)) (omega (arith, is, more)) in
    let stands = get_extends c.loop-edge.invariant.grows c.args.at c.args.from c.requires.stands in
    step_explained P P' c.loop-edge.pairs.facts.items c.args.at c.in-Some.edge c.args.from f p p' (exit_tree c.edge_at-to.result.exit.now) pair stands
    (moment_named c.args.both.now.old.now c.args.both.now.new.now c.loop-edge.pairs c.loop-edge.invariant.moment P P' ok ok' c.args.at c.args.from stands)
    at (c.requires.plain P P' f p p' ok ok' at) leaves (c.edge_at-to.ensures.exit P leaves.edge ok leaves.numbered) t

pub loop-edge-preserved : goal.loop-edge-preserved
loop-edge-preserved g c = record {
  can = tt;
  finite = tt;
  moment = c.advance.ensures.moment;
  upto = omega (arith, ends, more, onward);
  within = let within = c.loop-edge.invariant.within in omega (arith, ends, within);
  cost = let before = c.loop-edge.invariant.cost in let one = c.advance.ensures.cost in omega (arith, before, one, ends, more, onward);
  counted = let before = c.loop-edge.invariant.counted in let one = c.advance.ensures.counted in omega (arith, before, one);
  grows = extends_more c.loop-edge.invariant.grows c.advance.ensures.grows;
  own = λ P ok e from upto. c.loop-edge.invariant.own P ok e (omega (arith, onward, from)) (omega (arith, ends, upto));
  all = λ P ok e leaves. let own = c.loop-edge.invariant.all P ok e leaves in omega (arith, ends, own);
  held = λ P P' ok ok' e before s. held_case P P' ok ok' e (omega (arith, onward, before)) s (cases_lt e c.loop-edge.edge-iterator.start);
}
  where
    ends : c.next.new.self.end ≡ c.loop-edge.edge-iterator.end
    ends = c.in-Some.ensures.steps.0

    more : 0 < c.loop-edge.edge-iterator.end - c.loop-edge.edge-iterator.start
    more = c.in-Some.ensures.steps.1.0

    onward : c.next.new.self.start ≡ c.loop-edge.edge-iterator.start + 1
    onward = c.in-Some.ensures.steps.1.2

    held_case : (P P' : ProgramTree) → IsGraphOf c.args.both.now.old.now P → IsGraphOf c.args.both.now.new.now P' → (e : ℕ) → e ≤ c.loop-edge.edge-iterator.start → (s : LeavesFrom P e c.args.from.old) → (e < c.loop-edge.edge-iterator.start) ⊎ (c.loop-edge.edge-iterator.start ≤ e) → HoldsNext P P' c.advance.new.pairs.facts.items c.args.from s.edge.exit
    held_case P P' ok ok' e upto s (inl h) = holds_extends P P' c.args.from s.edge.exit c.advance.ensures.grows (c.loop-edge.invariant.held P P' ok ok' e h s)
    held_case P P' ok ok' e upto s (inr h) =
        let taken = c.in-Some.ensures.steps.1.1 in
        let is : c.in-Some.edge ≡ e = omega arith in
        let exits = c.edge_at-to.ensures.exit P s.edge ok (ap (edge_at P) is ∙ s.numbered) in
        subst (λ x. HoldsNext P P' c.advance.new.pairs.facts.items c.args.from x) exits (c.in_ok-advance.ensures.held P P' ok ok')

pub returns-clause-steps : goal.returns-clause-steps
returns-clause-steps g c P P' ok ok' x f p p' q q' at both =
    let e = edge_of P ok.valid c.args.from.old f p q x at.old both.old in
    let leaves : LeavesFrom P e.0 c.args.from.old = record { edge = record { function = f; from = p; exit = x }; numbered = e.1; from = at.old } in
    let own = c.loop-edge.invariant.all P ok e.0 leaves in
    let none = c.in-None.ensures.steps.1.0 in
    c.loop-edge.invariant.held P P' ok ok' e.0 (omega (arith, own, none)) leaves f p p' q q' at both

pub returns-in_err-advance-clause-grows : goal.returns-in_err-advance-clause-grows
returns-in_err-advance-clause-grows g c = extends_more c.loop-edge.invariant.grows c.advance.ensures.grows

pub returns-in_err-advance-clause-counted : goal.returns-in_err-advance-clause-counted
returns-in_err-advance-clause-counted g c =
    let before = c.loop-edge.invariant.counted in
    let one = c.advance.ensures.counted in
    omega (arith, before, one)

pub returns-in_err-advance-clause-cost : goal.returns-in_err-advance-clause-cost
returns-in_err-advance-clause-cost g c =
    let before = c.loop-edge.invariant.cost in
    let one = c.advance.ensures.cost in
    let more = c.in-Some.ensures.steps.1.0 in
    omega (arith, before, one, more)

pub returns-clause-cost : goal.returns-clause-cost
returns-clause-cost g c = let cost = c.loop-edge.invariant.cost in omega (arith, cost)
