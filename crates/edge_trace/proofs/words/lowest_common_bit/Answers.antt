use Rattle.edge_trace.proofs.CommonLemmas.{lowest_here, none_through, none_in_all}
use Rattle.edge_trace.proofs.words.lowest_common_bit.Goals as goal

pub returns-then-common-ne0-clause-some : goal.returns-then-common-ne0-clause-some
returns-then-common-ne0-clause-some c =
    lowest_here c.args.words.now c.args.others.now c.loop-at.at c.loop-at.invariant c.if-common-ne0.true (c.type_inv.words c.loop-at.at).fits

pub loop-at-preserved : goal.loop-at-preserved
loop-at-preserved c =
    none_through c.args.words.now c.args.others.now c.loop-at.at c.loop-at.invariant c.if-common-ne0.false

pub returns-clause-none : goal.returns-clause-none
returns-clause-none c =
    none_in_all c.args.words.now c.args.others.now c.loop-at.at c.loop-at-test.false c.loop-at.invariant
