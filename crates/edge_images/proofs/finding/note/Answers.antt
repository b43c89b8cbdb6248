use Rattle.std.proofs.Common.{◌≡◌, ℕ, ◌+◌, ◌<◌, length, sym, ap, subst, arith}
use Rattle.std.specs.declared.ops.Range.{Range}
use Rattle.dual_walk.proofs.LawsNumbers.{own_leaves, leaves_own}
use Rattle.edge_images.specs.Partly.{IsImageUpto, Answers}
use Rattle.flow_graph.proofs.LawsOnce.{edges_once}
use Rattle.edge_images.proofs.Noting.{upto_first, upto_last, noted_on}
use Rattle.edge_images.proofs.finding.note.Goals as goal

pub loop-edge-init : goal.loop-edge-init
loop-edge-init c = record {
  can = tt;
  finite = tt;
  edges = c.requires.edges;
  within = let within = c.edges_of-edge-items.ensures.within.1 in omega (arith, ends, within);
  own = λ P ok e from upto. own_leaves c.args.old.now c.args.from.old c.edges_of-edge-items.result.start c.edges_of-edge-items.result.end c.edges_of-edge-items.ensures.edges P ok e c.requires.old (omega (arith, starts, from)) (omega (arith, ends, upto));
  all = λ P ok e leaves. let own = (leaves_own c.args.old.now c.args.from.old c.edges_of-edge-items.result.start c.edges_of-edge-items.result.end c.edges_of-edge-items.ensures.edges P ok e leaves).1 in omega (arith, ends, own);
  noted = λ P P' facts n ok ok' stands h. upto_first P P' (edges_once P' ok'.valid) c.args.from facts n c.args.images.now.items c.into_iter-edge-iterator.result.start
      (λ e leaves.
      let own = (leaves_own c.args.old.now c.args.from.old c.edges_of-edge-items.result.start c.edges_of-edge-items.result.end c.edges_of-edge-items.ensures.edges P ok e leaves).0 in
      omega (arith, starts, own))
      h;
}
  where
    starts : c.into_iter-edge-iterator.result.start ≡ c.edges_of-edge-items.result.start
    starts = ap (λ (r : Range ℕ). r.start) c.into_iter-edge-iterator.ensures.into_iter_gives

    ends : c.into_iter-edge-iterator.result.end ≡ c.edges_of-edge-items.result.end
    ends = ap (λ (r : Range ℕ). r.end) c.into_iter-edge-iterator.ensures.into_iter_gives

pub note_edge-requires-clause-edge : goal.note_edge-requires-clause-edge
note_edge-requires-clause-edge c =
    let is = c.in-Some.ensures.steps.1.1 in
    let more = c.in-Some.ensures.steps.1.0 in
    let within = c.loop-edge.invariant.within in
    omega (arith, is, more, within)

pub note_edge-requires-clause-leaves : goal.note_edge-requires-clause-leaves
note_edge-requires-clause-leaves c P ok =
    let is = c.in-Some.ensures.steps.1.1 in
    let more = c.in-Some.ensures.steps.1.0 in
    c.loop-edge.invariant.own P ok c.in-Some.edge (omega (arith, is)) (omega (arith, is, more))

pub loop-edge-preserved : goal.loop-edge-preserved
loop-edge-preserved c = record {
  can = tt;
  finite = tt;
  edges = c.note_edge.ensures.edges;
  within = let within = c.loop-edge.invariant.within in omega (arith, ends, within);
  own = λ P ok e from upto. c.loop-edge.invariant.own P ok e (omega (arith, onward, from)) (omega (arith, ends, upto));
  all = λ P ok e leaves. let own = c.loop-edge.invariant.all P ok e leaves in omega (arith, ends, own);
  noted = λ P P' facts n ok ok' stands h. subst (λ m. Answers c.note_edge.new.images.items (IsImageUpto P P' facts n c.args.from m)) (sym onward)
      (noted_on P P' (edges_once P' ok'.valid) c.args.from facts n c.loop-edge.edge-iterator.start c.loop-edge.images.items c.note_edge.new.images.items below (c.loop-edge.invariant.noted P P' facts n ok ok' stands h)
      (rw taken at c.note_edge.ensures.notes P P' ok ok'));
}
  where
    ends : c.next.new.self.end ≡ c.loop-edge.edge-iterator.end
    ends = c.in-Some.ensures.steps.0

    taken : c.in-Some.edge ≡ c.loop-edge.edge-iterator.start
    taken = c.in-Some.ensures.steps.1.1

    onward : c.next.new.self.start ≡ c.loop-edge.edge-iterator.start + 1
    onward = c.in-Some.ensures.steps.1.2

    below : c.loop-edge.edge-iterator.start < length c.loop-edge.images.items
    below =
        let more = c.in-Some.ensures.steps.1.0 in
        let within = c.loop-edge.invariant.within in
        let edges = c.loop-edge.invariant.edges in
        omega (arith, more, within, edges)

pub returns-clause-noted : goal.returns-clause-noted
returns-clause-noted c P P' facts n ok ok' stands h =
    upto_last P P' (edges_once P' ok'.valid) c.args.from facts n c.loop-edge.images.items c.loop-edge.edge-iterator.start
    (λ e leaves.
    let own = c.loop-edge.invariant.all P ok e leaves in
    let none = c.in-None.ensures.steps.1.0 in
    omega (arith, own, none))
    stands (c.loop-edge.invariant.noted P P' facts n ok ok' stands h)
