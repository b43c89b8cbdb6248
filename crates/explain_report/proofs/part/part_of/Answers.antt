use Rattle.std.proofs.Common.{subst, sym}
use Rattle.std.proofs.lemmas.Result.{IfOk-weaker}
use Rattle.explain_report.specs.Marks.{AreMarked, AreClosed}
use Rattle.explain_report.proofs.MarkLemmas.{marked_closed}
use Rattle.explain_report.proofs.PartLemmas.{part_whole}
use Rattle.explain_report.proofs.part.part_of.Goals as goal

pub keep-requires-clause-closed : goal.keep-requires-clause-closed
keep-requires-clause-closed c =
    subst (AreClosed c.args.facts.now) (sym c.deref.ensures.value) (marked_closed c.args.facts.now c.args.wanted.now c.in_ok-marks.marks.items c.requires.earlier c.in_ok-marks.ensures)

pub returns : goal.returns
returns c =
    let are = subst (AreMarked c.args.facts.now c.args.wanted.now) (sym c.deref.ensures.value) c.in_ok-marks.ensures in
    IfOk-weaker c.keep.result _ _ (λ part h. part_whole c.args.facts.now c.args.wanted.now c.deref.result.now part are h) c.keep.ensures
