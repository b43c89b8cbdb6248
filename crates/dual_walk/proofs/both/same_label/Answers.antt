use Rattle.std.proofs.Common.{◌≡◌, ◌↔◌, IsTrue, get_or}
use Rattle.std.proofs.lemmas.Option.{slice_get_within}
use Rattle.csub_semantics.specs.Flows.{flow_of}
use Rattle.csub_semantics.specs.Books.{SameLabel}
use Rattle.dual_walk.specs.LabelRows.{IsNumbered}
use Rattle.dual_walk.proofs.LawsNumbers.{number_at, same_labels}
use Rattle.dual_walk.proofs.both.same_label.Goals as goal

pub same-requires-clause-a_given : goal.same-requires-clause-a_given
same-requires-clause-a_given g c =
    let h = number_at c.args.both.now.book.now c.args.both.now.old_labels.now c.args.both.now.old.now c.args.old c.requires.prepared.old c.requires.old in
    slice_get_within c.args.both.now.book.now (get_or c.args.both.now.old_labels.now c.args.old 0) h.label h.has

pub same-requires-clause-b_given : goal.same-requires-clause-b_given
same-requires-clause-b_given g c =
    let h = number_at c.args.both.now.book.now c.args.both.now.new_labels.now c.args.both.now.new.now c.args.new c.requires.prepared.new c.requires.new in
    slice_get_within c.args.both.now.book.now (get_or c.args.both.now.new_labels.now c.args.new 0) h.label h.has

pub returns-clause-same : goal.returns-clause-same
returns-clause-same g c P P' f p p' ok ok' at = (λ t. labels.0 (answer.0 t), λ same. answer.1 (labels.1 same))
  where
    here : IsNumbered c.args.both.now.book.now c.args.both.now.old.now c.args.old (get_or c.args.both.now.old_labels.now c.args.old 0)
    here = number_at c.args.both.now.book.now c.args.both.now.old_labels.now c.args.both.now.old.now c.args.old c.requires.prepared.old c.requires.old

    there : IsNumbered c.args.both.now.book.now c.args.both.now.new.now c.args.new (get_or c.args.both.now.new_labels.now c.args.new 0)
    there = number_at c.args.both.now.book.now c.args.both.now.new_labels.now c.args.both.now.new.now c.args.new c.requires.prepared.new c.requires.new

    labels : (here.label ≡ there.label) ↔ SameLabel (flow_of P) (flow_of P') f p p'
    labels = same_labels c.args.both.now.old.now c.args.both.now.new.now c.args.both.now.book.now P P' f p p' c.args.old c.args.new _ _ ok ok' at here there

    answer : IsTrue c.same.result ↔ (here.label ≡ there.label)
    answer = c.same.ensures.equal here.label there.label here.has there.has
