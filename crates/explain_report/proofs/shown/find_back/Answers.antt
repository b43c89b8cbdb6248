use Rattle.csub_semantics.specs.Numbers.{site}
use Rattle.explain_report.proofs.BackLemmas.{back_there, none_there}
use Rattle.explain_report.proofs.shown.find_back.Goals as goal

pub returns-in-Call-clause-back : goal.returns-in-Call-clause-back
returns-in-Call-clause-back c P P' f p ok ok' named at =
    back_there P P' c.args.facts.now f p c.label_at.result.now _ (c.label_at.ensures P (site f p) ok at) c.in-Call.call c.in-Call.is c.find_exits.result (c.find_exits.ensures.exits P P' ok ok' named)

pub returns-in_default : goal.returns-in_default
returns-in_default c = record {
  place = tt;
  back = λ P P' f p ok ok' named at g called h. none_there P P' c.args.facts.now f p c.label_at.result.now _ (c.label_at.ensures P (site f p) ok at) c.in_default.not-Call g called;
}
