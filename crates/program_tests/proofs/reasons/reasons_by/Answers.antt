use Rattle.std.proofs.Common.{sym, subst}
use Rattle.dual_walk.specs.LabelRows.{AreNumbered}
use Rattle.dual_walk.specs.Callees.{AreCallees}
use Rattle.program_tests.proofs.reasons.reasons_by.Goals as goal

pub reasons_counted-requires-clause-prepared : goal.reasons_counted-requires-clause-prepared
reasons_counted-requires-clause-prepared c = record {
  old = subst (λ row. AreNumbered c.number_labels.new.book row c.args.graph.now) (sym c.deref.ensures.value) c.in_ok-labels.ensures.row;
  new = subst (λ row. AreNumbered c.number_labels.new.book row c.args.graph.now) (sym c.deref-2.ensures.value) c.in_ok-labels.ensures.row;
  callees = subst (AreCallees c.args.graph.now c.args.graph.now) (sym c.deref-3.ensures.value) c.in_ok-callees.ensures;
}
