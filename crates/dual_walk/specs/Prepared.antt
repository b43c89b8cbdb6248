-- Both graphs of a walk with what is asked of their points again and again.
use Rattle.dual_walk.specs.LabelRows.{AreNumbered}
use Rattle.dual_walk.specs.Callees.{AreCallees}
use Rattle.dual_walk.specs.declared.both.Both.{Both}

-- the labels of both graphs by numbers of one book, and what is called at the old points
pub record IsPrepared (both : Both) : Type 0 where
  pub old : AreNumbered both.book.now both.old_labels.now both.old.now
  pub new : AreNumbered both.book.now both.new_labels.now both.new.now
  pub callees : AreCallees both.old.now both.new.now both.callees.now
