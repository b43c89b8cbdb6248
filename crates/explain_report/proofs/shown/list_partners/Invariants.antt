use Rattle.explain_report.proofs.PartnerLemmas.{PartnersTo}
use Rattle.explain_report.proofs.shown.list_partners.Given as goal

abbrev pub invariant-loop-fact : goal.invariant-loop-fact
invariant-loop-fact l = PartnersTo l.facts l.old l.points l.fact-index l.partners.items
