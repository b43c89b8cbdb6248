use Rattle.std.proofs.Common.{◌≡◌, ℕ, List, ◌+◌, ◌<◌, ◌≤◌, ap, ◌⊎◌, inl, inr, arith}
use Rattle.std.specs.declared.ops.Range.{Range}
use Rattle.std.proofs.lemmas.Bool.{cases_lt}
use Rattle.csub_semantics.specs.Syntax.{ProgramTree}
use Rattle.flow_graph.specs.Graph.{point_count}
use Rattle.dual_walk.specs.declared.fact.Fact.{Fact}
use Rattle.dual_walk.specs.Books.{LeavesFrom}
use Rattle.dual_walk.specs.Rest.{facts_of}
use Rattle.dual_walk.proofs.LawsLists.{contained}
use Rattle.dual_walk.proofs.LawsNumbers.{own_leaves, leaves_own}
use Rattle.dual_walk.proofs.LawsRest.{rest_book}
use Rattle.call_walk.specs.Danger.{Stops}
use Rattle.call_walk.proofs.Marking.{marks_as, marks_then, marks_none}
use Rattle.call_walk.proofs.danger.mark_edges.Goals as goal

-- a fact stops at an edge that leaves its old point
stop_leaves : (P P' : ProgramTree) (facts : List Fact) (c : Fact) (e : ℕ) → Stops P P' facts c e → LeavesFrom P e c.old
stop_leaves P P' facts c e s = record { edge = s.edge; numbered = s.numbered; from = s.at.old }

pub edges_of-edge-items-requires : goal.edges_of-edge-items-requires
edges_of-edge-items-requires c =
    let i = contained (facts_of c.args.walk.now) c.args.from c.requires.among in
    ((rest_book c.args.old.now c.args.new.now c.args.walk.now c.requires.rests).within i.0 c.args.from i.1).old

pub loop-edge-init : goal.loop-edge-init
loop-edge-init c = record {
  can = tt;
  finite = tt;
  edges = c.requires.edges;
  within = let within = c.edges_of-edge-items.ensures.within.1 in omega (arith, ends, within);
  own = λ P ok e from upto. own_leaves c.args.old.now c.args.from.old c.edges_of-edge-items.result.start c.edges_of-edge-items.result.end c.edges_of-edge-items.ensures.edges P ok e within (omega (arith, starts, from)) (omega (arith, ends, upto));
  all = λ P ok e leaves. let own = (leaves_own c.args.old.now c.args.from.old c.edges_of-edge-items.result.start c.edges_of-edge-items.result.end c.edges_of-edge-items.ensures.edges P ok e leaves).1 in omega (arith, ends, own);
  marks = λ P P' ok ok'. marks_none c.args.danger.now (λ e. (e < c.into_iter-edge-iterator.result.start) × Stops P P' (facts_of c.args.walk.now) c.args.from e)
      (λ e h.
      let before = h.0 in
      let own = (leaves_own c.args.old.now c.args.from.old c.edges_of-edge-items.result.start c.edges_of-edge-items.result.end c.edges_of-edge-items.ensures.edges P ok e (stop_leaves P P' (facts_of c.args.walk.now) c.args.from e h.1)).0 in
      omega (arith, starts, before, own));
}
  where
    within : c.args.from.old < point_count c.args.old.now
    within = let i = contained (facts_of c.args.walk.now) c.args.from c.requires.among in ((rest_book c.args.old.now c.args.new.now c.args.walk.now c.requires.rests).within i.0 c.args.from i.1).old

    starts : c.into_iter-edge-iterator.result.start ≡ c.edges_of-edge-items.result.start
    starts = ap (λ (r : Range ℕ). r.start) c.into_iter-edge-iterator.ensures.into_iter_gives

    ends : c.into_iter-edge-iterator.result.end ≡ c.edges_of-edge-items.result.end
    ends = ap (λ (r : Range ℕ). r.end) c.into_iter-edge-iterator.ensures.into_iter_gives

pub mark_edge-requires-clause-edge : goal.mark_edge-requires-clause-edge
mark_edge-requires-clause-edge c =
    let is = c.in-Some.ensures.steps.1.1 in
    let more = c.in-Some.ensures.steps.1.0 in
    let within = c.loop-edge.invariant.within in
    omega (arith, is, more, within)

pub mark_edge-requires-clause-leaves : goal.mark_edge-requires-clause-leaves
mark_edge-requires-clause-leaves c P ok =
    let is = c.in-Some.ensures.steps.1.1 in
    let more = c.in-Some.ensures.steps.1.0 in
    c.loop-edge.invariant.own P ok c.in-Some.edge (omega (arith, is)) (omega (arith, is, more))

pub loop-edge-preserved : goal.loop-edge-preserved
loop-edge-preserved c = record {
  can = tt;
  finite = tt;
  edges = c.mark_edge.ensures.edges;
  within = let within = c.loop-edge.invariant.within in omega (arith, ends, within);
  own = λ P ok e from upto. c.loop-edge.invariant.own P ok e (omega (arith, onward, from)) (omega (arith, ends, upto));
  all = λ P ok e leaves. let own = c.loop-edge.invariant.all P ok e leaves in omega (arith, ends, own);
  marks = λ P P' ok ok'. marks_as c.args.danger.now c.mark_edge.new.danger
      (λ e. ((e < c.loop-edge.edge-iterator.start) × Stops P P' (facts_of c.args.walk.now) c.args.from e) ⊎ ((e ≡ c.in-Some.edge) × Stops P P' (facts_of c.args.walk.now) c.args.from e))
      (λ e. (e < c.next.new.self.start) × Stops P P' (facts_of c.args.walk.now) c.args.from e)
      (λ e h. to P P' e h) (λ e h. back P P' e h (cases_lt e c.loop-edge.edge-iterator.start))
      (marks_then c.args.danger.now c.loop-edge.danger c.mark_edge.new.danger
      (λ e. (e < c.loop-edge.edge-iterator.start) × Stops P P' (facts_of c.args.walk.now) c.args.from e)
      (λ e. (e ≡ c.in-Some.edge) × Stops P P' (facts_of c.args.walk.now) c.args.from e)
      (c.loop-edge.invariant.marks P P' ok ok') (c.mark_edge.ensures.marks P P' ok ok'));
}
  where
    ends : c.next.new.self.end ≡ c.loop-edge.edge-iterator.end
    ends = c.in-Some.ensures.steps.0

    taken : c.in-Some.edge ≡ c.loop-edge.edge-iterator.start
    taken = c.in-Some.ensures.steps.1.1

    onward : c.next.new.self.start ≡ c.loop-edge.edge-iterator.start + 1
    onward = c.in-Some.ensures.steps.1.2

    to : (P P' : ProgramTree) (e : ℕ) → ((e < c.loop-edge.edge-iterator.start) × Stops P P' (facts_of c.args.walk.now) c.args.from e) ⊎ ((e ≡ c.in-Some.edge) × Stops P P' (facts_of c.args.walk.now) c.args.from e) → (e < c.next.new.self.start) × Stops P P' (facts_of c.args.walk.now) c.args.from e
    to P P' e (inl h) = (omega (arith, onward, h.0), h.1)
    to P P' e (inr h) = (omega (arith, onward, taken, h.0), h.1)

    back : (P P' : ProgramTree) (e : ℕ) → (e < c.next.new.self.start) × Stops P P' (facts_of c.args.walk.now) c.args.from e → (e < c.loop-edge.edge-iterator.start) ⊎ (c.loop-edge.edge-iterator.start ≤ e) → ((e < c.loop-edge.edge-iterator.start) × Stops P P' (facts_of c.args.walk.now) c.args.from e) ⊎ ((e ≡ c.in-Some.edge) × Stops P P' (facts_of c.args.walk.now) c.args.from e)
    back P P' e h (inl l) = inl (l, h.1)
    back P P' e h (inr l) = inr (omega (arith, onward, taken, h.0, l), h.1)

pub returns-clause-marks : goal.returns-clause-marks
returns-clause-marks c P P' ok ok' = marks_as c.args.danger.now c.loop-edge.danger
    (λ e. (e < c.loop-edge.edge-iterator.start) × Stops P P' (facts_of c.args.walk.now) c.args.from e)
    (Stops P P' (facts_of c.args.walk.now) c.args.from)
    (λ e h. h.1) (λ e s. (before e s, s)) (c.loop-edge.invariant.marks P P' ok ok')
  where
    before : (e : ℕ) → Stops P P' (facts_of c.args.walk.now) c.args.from e → e < c.loop-edge.edge-iterator.start
    before e s =
        let own = c.loop-edge.invariant.all P ok e (stop_leaves P P' (facts_of c.args.walk.now) c.args.from e s) in
        let none = c.in-None.ensures.steps.1.0 in
        omega (arith, own, none)
