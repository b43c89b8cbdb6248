use Rattle.std.proofs.Common.{sym, subst}
use Rattle.explain_report.specs.Trims.{RestOnEarlier}
use Rattle.explain_report.proofs.LawsTrims.{reasoned_rest}
use Rattle.program_tests.proofs.trimming.part_for.Goals as goal

pub trim-requires-clause-earlier : goal.trim-requires-clause-earlier
trim-requires-clause-earlier c =
    let old = c.have_programs.ensures.old in
    let new = c.have_programs.ensures.new in
    let walk = c.requires.walk old.0 new.0 old.1 new.1 in
    subst RestOnEarlier (sym c.as_slice.ensures.value) (reasoned_rest old.0 new.0 c.args.walked.now.facts.items (record { each = walk.reasons }))
