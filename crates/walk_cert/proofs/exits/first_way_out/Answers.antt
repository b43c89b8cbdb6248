use Rattle.std.proofs.Common.{◌≡◌, sym, subst, inl, inr, arith}
use Rattle.std.proofs.lemmas.Bool.{cases_lt}
use Rattle.dual_walk.proofs.LawsNumbers.{own_leaves, leaves_own}
use Rattle.walk_cert.specs.Verdicts.{StaysAt}
use Rattle.walk_cert.proofs.ClaimLemmas.{way_leaves}
use Rattle.walk_cert.proofs.exits.first_way_out.Goals as goal

pub leads_out-requires-clause-leaves : goal.leads_out-requires-clause-leaves
leads_out-requires-clause-leaves c P ok =
    own_leaves c.args.old.now c.args.pair.old c.edges_of-edges.result.start c.edges_of-edges.result.end c.edges_of-edges.ensures.edges P ok c.loop-edge.edge c.requires.old c.loop-edge.invariant.from c.loop-edge-test.true

pub returns-then-leads_out : goal.returns-then-leads_out
returns-then-leads_out c P P' ok ok' = record {
  out = rw c.if-leads_out.true at (c.leads_out.ensures P P' ok ok');
  before = λ k less way.
      let own = leaves_own c.args.old.now c.args.pair.old c.edges_of-edges.result.start c.edges_of-edges.result.end c.edges_of-edges.ensures.edges P ok k (way_leaves P P' c.args.pair k way) in
      c.loop-edge.invariant.before P P' ok ok' k own.0 less way;
}

pub loop-edge-preserved : goal.loop-edge-preserved
loop-edge-preserved c = record {
  from = omega (arith, c.loop-edge.invariant.from);
  upto = omega (arith, c.loop-edge-test.true);
  within = c.loop-edge.invariant.within;
  before = λ P P' ok ok' k from less way. elim (cases_lt k c.loop-edge.edge) [
    | inl earlier ↦ c.loop-edge.invariant.before P P' ok ok' k from earlier way
    | inr last ↦
        let same : k ≡ c.loop-edge.edge = omega arith in
        let stays : StaysAt P P' c.args.danger.now c.args.pairs.now c.args.pair c.loop-edge.edge = rw c.if-leads_out.false at (c.leads_out.ensures P P' ok ok') in
        subst (λ n. StaysAt P P' c.args.danger.now c.args.pairs.now c.args.pair n) (sym same) stays way
  ];
}

pub returns : goal.returns
returns c P P' ok ok' = λ e way.
    let own = leaves_own c.args.old.now c.args.pair.old c.edges_of-edges.result.start c.edges_of-edges.result.end c.edges_of-edges.ensures.edges P ok e (way_leaves P P' c.args.pair e way) in
    c.loop-edge.invariant.before P P' ok ok' e own.0 (omega (arith, own.1, c.loop-edge-test.false)) way
