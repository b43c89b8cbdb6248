use Rattle.explain_report.proofs.ToldLemmas.{facts_next, facts_all}
use Rattle.explain_report.proofs.told.push_fact_lines.Goals as goal

pub loop-place-preserved : goal.loop-place-preserved
loop-place-preserved c P ok =
    facts_next P c.args.facts.now c.loop-place.place _ c.loop-place.text.items c.push_fact_line.new.text.items _ c.loop-place-test.true (c.in_ok-push_fact_line.ensures P ok)
    (c.loop-place.invariant P ok)

pub returns : goal.returns
returns c P ok = facts_all P c.args.facts.now c.loop-place.place c.loop-place.text.items _ c.loop-place-test.false (c.loop-place.invariant P ok)
