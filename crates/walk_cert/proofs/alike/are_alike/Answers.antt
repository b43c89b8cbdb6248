use Rattle.std.proofs.Common.{◌∙◌, get_or, sym}
use Rattle.std.proofs.lemmas.Bool.{false≢true}
use Rattle.std.proofs.lemmas.Option.{slice_get_within}
use Rattle.dual_walk.specs.LabelRows.{IsNumbered}
use Rattle.dual_walk.proofs.LawsNumbers.{number_at, same_labels}
use Rattle.walk_cert.proofs.alike.are_alike.Goals as goal

pub same-requires-clause-a_given : goal.same-requires-clause-a_given
same-requires-clause-a_given g c =
    let both = c.args.both.now in
    let h = number_at both.book.now both.old_labels.now both.old.now c.args.pair.old c.requires.prepared.old c.requires.old in
    slice_get_within both.book.now (get_or both.old_labels.now c.args.pair.old 0) h.label h.has

pub same-requires-clause-b_given : goal.same-requires-clause-b_given
same-requires-clause-b_given g c =
    let both = c.args.both.now in
    let h = number_at both.book.now both.new_labels.now both.new.now c.args.pair.new c.requires.prepared.new c.requires.new in
    slice_get_within both.book.now (get_or both.new_labels.now c.args.pair.new 0) h.label h.has

pub returns-then-same : goal.returns-then-same
returns-then-same g c P P' ok ok' =
    let both = c.args.both.now in
    let here : IsNumbered both.book.now both.old.now c.args.pair.old (get_or both.old_labels.now c.args.pair.old 0) = number_at both.book.now both.old_labels.now both.old.now c.args.pair.old c.requires.prepared.old c.requires.old in
    let there : IsNumbered both.book.now both.new.now c.args.pair.new (get_or both.new_labels.now c.args.pair.new 0) = number_at both.book.now both.new_labels.now both.new.now c.args.pair.new c.requires.prepared.new c.requires.new in
    let one = (c.same.ensures.equal here.label there.label here.has there.has).0 c.if-same.true in
    let named = c.are_named_alike.ensures P P' ok ok' in (
      λ is.
          let n = named.0 is in
          record { named = n; same = (same_labels both.old.now both.new.now both.book.now P P' n.function n.point n.other c.args.pair.old c.args.pair.new _ _ ok ok' n.at here there).0 one },
      λ h. named.1 h.named,
    )

pub returns-else-same : goal.returns-else-same
returns-else-same g c P P' ok ok' =
    let both = c.args.both.now in
    let here : IsNumbered both.book.now both.old.now c.args.pair.old (get_or both.old_labels.now c.args.pair.old 0) = number_at both.book.now both.old_labels.now both.old.now c.args.pair.old c.requires.prepared.old c.requires.old in
    let there : IsNumbered both.book.now both.new.now c.args.pair.new (get_or both.new_labels.now c.args.pair.new 0) = number_at both.book.now both.new_labels.now both.new.now c.args.pair.new c.requires.prepared.new c.requires.new in
    let other = c.same.ensures.equal here.label there.label here.has there.has in (
      λ is. absurd (false≢true (sym c.if-same.false ∙ is)),
      λ h. absurd (false≢true (sym c.if-same.false ∙ other.1 ((same_labels both.old.now both.new.now both.book.now P P' h.named.function h.named.point h.named.other c.args.pair.old c.args.pair.new _ _ ok ok' h.named.at here there).1 h.same))),
    )
