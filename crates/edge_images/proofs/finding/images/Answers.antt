use Rattle.std.proofs.Common.{◌≡◌, length, get_or, ap, subst, arith}
use Rattle.edge_images.specs.Partly.{IsImageBefore, Answers}
use Rattle.edge_images.proofs.Whole.{first_fact, fact_stands, fact_named, fact_within, are_images, are_below}
use Rattle.edge_images.proofs.finding.images.Goals as goal

pub note-requires-clause-old : goal.note-requires-clause-old
note-requires-clause-old c =
    let old = c.have_programs.ensures.old in
    let new = c.have_programs.ensures.new in
    let at = c.loop-from.from-index in
    let items = c.deref-from-items.result.now in
    let stands = fact_stands c.args.walked.now.facts.items items at c.deref-from-items.ensures.value c.loop-from-test.true in
    (fact_within old.0 new.0 c.args.walked.now (c.requires.walk old.0 new.0 old.1 new.1) c.args.old.now c.args.new.now old.1 new.1 at (get_or items at first_fact) stands).0

pub note-requires-clause-new : goal.note-requires-clause-new
note-requires-clause-new c =
    let old = c.have_programs.ensures.old in
    let new = c.have_programs.ensures.new in
    let at = c.loop-from.from-index in
    let items = c.deref-from-items.result.now in
    let stands = fact_stands c.args.walked.now.facts.items items at c.deref-from-items.ensures.value c.loop-from-test.true in
    (fact_within old.0 new.0 c.args.walked.now (c.requires.walk old.0 new.0 old.1 new.1) c.args.old.now c.args.new.now old.1 new.1 at (get_or items at first_fact) stands).1

pub note-requires-clause-named : goal.note-requires-clause-named
note-requires-clause-named c P P' ok ok' =
    let at = c.loop-from.from-index in
    let items = c.deref-from-items.result.now in
    let stands = fact_stands c.args.walked.now.facts.items items at c.deref-from-items.ensures.value c.loop-from-test.true in
    fact_named P P' c.args.walked.now (c.requires.walk P P' ok ok') at (get_or items at first_fact) stands

pub loop-from-preserved : goal.loop-from-preserved
loop-from-preserved c = record {
  edges = c.note.ensures.edges;
  noted = λ P P' ok ok'. c.note.ensures.noted P P' c.args.walked.now.facts.items c.loop-from.from-index ok ok'
      (fact_stands c.args.walked.now.facts.items c.deref-from-items.result.now c.loop-from.from-index c.deref-from-items.ensures.value c.loop-from-test.true) (c.loop-from.invariant.noted P P' ok ok');
}

pub returns-clause-images : goal.returns-clause-images
returns-clause-images c P P' ok ok' =
    let facts = c.args.walked.now.facts.items in
    let test = c.loop-from-test.false in
    let end = c.loop-from.auto.from-index-end in
    let all : c.loop-from.from-index ≡ length facts = omega (arith, test, end, ap length c.deref-from-items.ensures.value) in
    are_images P P' c.args.walked.now (c.requires.walk P P' ok ok') c.args.old.now c.args.new.now ok ok' c.loop-from.images.items c.loop-from.invariant.edges
    (subst (λ n. Answers c.loop-from.images.items (IsImageBefore P P' facts n)) all (c.loop-from.invariant.noted P P' ok ok'))

pub returns-clause-below : goal.returns-clause-below
returns-clause-below c =
    let facts = c.args.walked.now.facts.items in
    let old = c.have_programs.ensures.old in
    let new = c.have_programs.ensures.new in
    let test = c.loop-from-test.false in
    let end = c.loop-from.auto.from-index-end in
    let all : c.loop-from.from-index ≡ length facts = omega (arith, test, end, ap length c.deref-from-items.ensures.value) in
    are_below old.0 new.0 c.args.walked.now (c.requires.walk old.0 new.0 old.1 new.1) c.args.old.now c.args.new.now old.1 new.1 c.loop-from.images.items c.loop-from.invariant.edges
    (subst (λ n. Answers c.loop-from.images.items (IsImageBefore old.0 new.0 facts n)) all (c.loop-from.invariant.noted old.0 new.0 old.1 new.1))
