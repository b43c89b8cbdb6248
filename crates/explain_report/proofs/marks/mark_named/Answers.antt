use Rattle.explain_report.proofs.MarkLemmas.{adds_both}
use Rattle.explain_report.proofs.marks.mark_named.Goals as goal

pub returns-in-Over : goal.returns-in-Over
returns-in-Over c = adds_both c.args.marks.now c.args.why c.in-Over.from c.in-Over.back c.in-Over.is c.requires
