use Rattle.std.proofs.Common.{◌+◌, Bool, Vec, Global, sym, subst}
use Rattle.explain_report.proofs.PartnerLemmas.{PartnersTo, marked_next, passed_next}
use Rattle.explain_report.proofs.shown.list_partners.Goals as goal
use Rattle.explain_report.proofs.shown.list_partners.Goals.{then-fact-old, else-fact-old}

pub loop-fact-preserved : goal.loop-fact-preserved
loop-fact-preserved c =
    let facts = c.args.facts.now in
    let at = c.loop-fact.fact-index in
    elim c.if-fact-old.branch [
      | then-fact-old w ↦
          subst (λ (v : Vec Bool Global). PartnersTo facts c.args.old c.args.points (at + 1) v.items) (sym w.partners-is)
          (marked_next facts c.args.old c.args.points at _ c.loop-fact.partners.items c.loop-fact-test.true w.if-fact-old.true (c.requires at _ c.loop-fact-test.true) c.loop-fact.invariant)
      | else-fact-old w ↦
          subst (λ (v : Vec Bool Global). PartnersTo facts c.args.old c.args.points (at + 1) v.items) (sym w.partners-is)
          (passed_next facts c.args.old c.args.points at _ c.loop-fact.partners.items c.loop-fact-test.true w.if-fact-old.false c.loop-fact.invariant)
    ]
