use Rattle.csub_semantics.specs.Points.{exit_tree}
use Rattle.csub_semantics.specs.Numbers.{site}
use Rattle.explain_report.proofs.FollowLemmas.{parts_some, parts_none}
use Rattle.explain_report.proofs.shown.parts.Goals as goal

pub returns-in-Some : goal.returns-in-Some
returns-in-Some c P' f p' ok at =
    parts_some c.args.new.now P' ok f p' (exit_tree c.args.exit.now) c.args.partners.now c.in-Some.next c.in-Some.ensures.within (c.in-Some.ensures.leads P' (site f p') ok at)

pub returns-in-None : goal.returns-in-None
returns-in-None c P' f p' ok at =
    ((λ t. parts_none c.args.new.now P' ok f p' (exit_tree c.args.exit.now) c.args.partners.now (c.in-None.ensures.leads P' (site f p') ok at)), λ h. cc)
