use Rattle.explain_report.proofs.TrimLemmas.{trimmed_reasoned}
use Rattle.explain_report.proofs.trimming.trim.Goals as goal

pub returns-clause-book : goal.returns-clause-book
returns-clause-book c P P' = trimmed_reasoned P P' c.args.facts.now c.in_ok-kept.field-0.facts.items c.args.wanted.now c.in_ok-kept.ensures.trimmed
