use Rattle.std.proofs.lemmas.Result.{on_ok_weaker}
use Rattle.dual_walk.proofs.Explaining.{moment_more, extends_added}
use Rattle.dual_walk.proofs.Resting.{asked_few, with_pair}
use Rattle.dual_walk.proofs.LawsFacts.{pair_extends, extends_more}
use Rattle.dual_walk.proofs.LawsRest.{rest_closed}
use Rattle.dual_walk.proofs.walking.Walk.add.Goals as goal

pub returns-in_err-add-clause-book : goal.returns-in_err-add-clause-book
returns-in_err-add-clause-book g c =
    (moment_more c.args.both.now.old.now c.args.both.now.new.now c.args.self.now.pairs c.add.new.pairs c.args.fact c.requires.rests.under_way.moment c.requires.within c.requires.explained c.add.ensures.height c.add.ensures.width c.add.ensures.facts).book

pub returns-in_err-add-clause-grows : goal.returns-in_err-add-clause-grows
returns-in_err-add-clause-grows g c = extends_added c.args.self.now.pairs.facts.items c.add.new.pairs.facts.items c.args.fact c.add.ensures.facts

pub returns-in_err-add-clause-few : goal.returns-in_err-add-clause-few
returns-in_err-add-clause-few g c = asked_few c.args.both.now.old.now c.args.both.now.new.now c.args.self.now c.requires.rests.under_way

pub follow_all-requires-clause-under_way : goal.follow_all-requires-clause-under_way
follow_all-requires-clause-under_way g c =
    with_pair c.args.both.now.old.now c.args.both.now.new.now c.args.self.now c.requires.rests.under_way c.add.new.pairs
    (moment_more c.args.both.now.old.now c.args.both.now.new.now c.args.self.now.pairs c.add.new.pairs c.args.fact c.requires.rests.under_way.moment c.requires.within c.requires.explained c.add.ensures.height c.add.ensures.width c.add.ensures.facts)
    (extends_added c.args.self.now.pairs.facts.items c.add.new.pairs.facts.items c.args.fact c.add.ensures.facts)

pub returns-clause-grows : goal.returns-clause-grows
returns-clause-grows g c = extends_more (extends_added c.args.self.now.pairs.facts.items c.add.new.pairs.facts.items c.args.fact c.add.ensures.facts) c.follow_all.ensures.grows

pub returns-clause-held : goal.returns-clause-held
returns-clause-held g c = on_ok_weaker c.follow_all.result (λ rests. pair_extends c.follow_all.ensures.grows c.args.fact.old c.args.fact.new c.in_ok-add.ensures.held) c.follow_all.ensures.rests

pub returns-clause-closed : goal.returns-clause-closed
returns-clause-closed g c = on_ok_weaker c.follow_all.result (λ rests P P' ok ok'. rest_closed c.args.both.now.old.now c.args.both.now.new.now c.follow_all.new.self rests P P' ok ok') c.follow_all.ensures.rests
