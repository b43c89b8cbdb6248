use Rattle.std.proofs.lemmas.Result.{on_ok_weaker}
use Rattle.csub_semantics.specs.Points.{exit_tree}
use Rattle.dual_walk.proofs.LawsLists.{contained}
use Rattle.dual_walk.proofs.LawsFacts.{at_named, extends_none}
use Rattle.dual_walk.proofs.Explaining.{moment_more, together_held, extends_added}
use Rattle.dual_walk.proofs.follow.advance.Goals as goal

pub returns-in_default-clause-held : goal.returns-in_default-clause-held
returns-in_default-clause-held g c P P' ok ok' f p p' q q' at both = absurd (c.in_default.ensures.together P P' f p p' ok ok' at q q' both)

pub returns-clause-moment : goal.returns-clause-moment
returns-clause-moment g c =
    let at = contained c.args.pairs.now.facts.items c.args.from c.requires.among in
    let w = c.requires.moment.book.within at.0 c.args.from at.1 in
    moment_more c.args.both.now.old.now c.args.both.now.new.now c.args.pairs.now c.add.new.pairs _ c.requires.moment (record { function = w.function; old = c.in-Some.ensures.old; new = c.in-Some.ensures.new })
    (λ P P' ok ok'. let n = ((c.requires.moment.book.reasoned P P' ok ok').each at.0 c.args.from at.1).named in c.requires.why P P' ok ok' n.name n.point n.other (at_named P P' c.args.from n) c.in-Some.next (c.in-Some.ensures.together P P' n.name n.point n.other ok ok' (at_named P P' c.args.from n)))
    c.add.ensures.height c.add.ensures.width c.add.ensures.facts

pub returns-clause-grows : goal.returns-clause-grows
returns-clause-grows g c = extends_added c.args.pairs.now.facts.items c.add.new.pairs.facts.items _ c.add.ensures.facts

pub returns-clause-held : goal.returns-clause-held
returns-clause-held g c = on_ok_weaker c.add.result (λ h P P' ok ok' f p p' q q' at both. together_held P P' c.add.new.pairs.facts.items f p p' q q' (exit_tree c.args.exit.now) c.in-Some.next (c.in-Some.ensures.together P P' f p p' ok ok' at) h both) c.add.ensures.held

pub returns-in_default-clause-grows : goal.returns-in_default-clause-grows
returns-in_default-clause-grows g c = extends_none
