use Rattle.std.proofs.Common.{sym, subst}
use Rattle.dual_walk.specs.LabelRows.{AreNumbered}
use Rattle.dual_walk.specs.Callees.{AreCallees}
use Rattle.dual_walk.proofs.LawsNumbers.{row_kept}
use Rattle.call_walk.proofs.walking.walk_by.Goals as goal

pub walk_both-requires : goal.walk_both-requires
walk_both-requires g c = record {
  prepared = record {
    old = subst (λ row. AreNumbered c.number_labels-2.new.book row c.args.old.now) (sym c.deref.ensures.value)
        (row_kept c.number_labels.new.book c.number_labels-2.new.book c.in_ok-old_labels.old_labels.items c.args.old.now c.in_ok-new_labels.ensures.keeps c.in_ok-old_labels.ensures.row);
    new = subst (λ row. AreNumbered c.number_labels-2.new.book row c.args.new.now) (sym c.deref-2.ensures.value) c.in_ok-new_labels.ensures.row;
    callees = subst (AreCallees c.args.old.now c.args.new.now) (sym c.deref-3.ensures.value) c.in_ok-callees.ensures;
  };
}
