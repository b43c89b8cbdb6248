use Rattle.dual_walk.specs.Rest.{facts_of}
use Rattle.dual_walk.proofs.LawsRest.{rest_book}
use Rattle.call_walk.proofs.Marking.{walk_of}
use Rattle.call_walk.proofs.walking.walk_both.Goals as goal

pub returns-clause-is_walk : goal.returns-clause-is_walk
returns-clause-is_walk g c P P' ok ok' =
    let book = rest_book c.args.both.now.old.now c.args.both.now.new.now c.reach.new.walk c.in_ok-reach.ensures.rests in
    walk_of P P' ok.valid ok'.valid (facts_of c.reach.new.walk) _ c.into_facts-facts.ensures
    (record { reasoned = book.reasoned P P' ok ok'; once = book.once; all = c.in_ok-reach.ensures.all P P' ok ok'; edges = c.in_ok-danger.ensures.edges P ok; marked = c.in_ok-danger.ensures.marked P P' ok ok' })
