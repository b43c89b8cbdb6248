use Rattle.std.proofs.Common.{◌<◌, List, length, sym, ap, subst, arith}
use Rattle.std.specs.Prelude.{All, IfSome}
use Rattle.std.proofs.lemmas.Option.{slice_get_within}
use Rattle.csub_semantics.specs.Points.{exit_tree}
use Rattle.dual_walk.specs.declared.fact.Fact.{Fact}
use Rattle.explain_report.specs.Dangers.{AreNamed, AreWithin}
use Rattle.explain_report.proofs.FollowLemmas.{edge_there}
use Rattle.explain_report.proofs.ShownLemmas.{walk_reasoned, reasoned_named, parting_there, shown_there, points_seen}
use Rattle.explain_report.proofs.shown.find_shown.Goals as goal

pub find_parting-requires-clause-within : goal.find_parting-requires-clause-within
find_parting-requires-clause-within c = points_seen c.args.old.now c.args.new.now c.args.walked.now.facts.items c.as_slice-facts.result.now c.requires.within c.as_slice-facts.ensures.value

pub unreachable-requires : goal.unreachable-requires
unreachable-requires c =
    let P = c.requires.walk.0 in
    let P' = c.requires.walk.1 in
    let ok = c.requires.walk.2 in
    let ok' = c.requires.walk.3 in
    let there = edge_there c.args.old.now P ok c.args.edge c.requires.edge in
    let ends = c.edge_at-from.ensures in
    parting_there P P' c.args.walked.now c.requires.walk.4 c.args.old.now c.args.new.now ok ok' (c.reached_is_closed.ensures P P' ok.valid ok'.valid) c.args.edge there.0 there.1 c.requires.danger
    c.edge_at-from.result.from c.edge_at-from.result.to (exit_tree c.edge_at-from.result.exit.now) (ends.from P there.0 ok there.1) (ends.exit P there.0 ok there.1) (ends.to P there.0 ok there.1)
    c.as_slice-facts.result.now c.as_slice-facts.ensures.value c.deref.result.now c.in_ok-partners.partners.items c.deref.ensures.value c.in_ok-partners.ensures.partners c.in_default.ensures.none

pub returns-clause-place : goal.returns-clause-place
returns-clause-place c =
    let found = c.in-Some.ensures.found in
    let l = slice_get_within c.as_slice-facts.result.now c.in-Some.place found.0 found.1 in
    omega (arith, ap length c.as_slice-facts.ensures.value)

pub returns-clause-shown : goal.returns-clause-shown
returns-clause-shown c P P' edge ok ok' walk numbered =
    let facts = c.args.walked.now.facts.items in
    let ends = c.edge_at-from.ensures in
    let named = subst (AreNamed P P') (sym c.as_slice-facts.ensures.value) (reasoned_named P P' facts (walk_reasoned P P' c.args.walked.now walk)) in
    shown_there P P' c.args.walked.now walk c.args.old.now c.args.new.now ok ok' (c.reached_is_closed.ensures P P' ok.valid ok'.valid) c.args.edge edge numbered c.requires.danger
    c.edge_at-from.result.from c.edge_at-from.result.to (exit_tree c.edge_at-from.result.exit.now) (ends.from P edge ok numbered) (ends.exit P edge ok numbered) (ends.to P edge ok numbered)
    c.as_slice-facts.result.now c.as_slice-facts.ensures.value c.deref.result.now c.in_ok-partners.partners.items c.deref.ensures.value c.in_ok-partners.ensures.partners
    c.in-Some.place c.find_back-back.result c.in-Some.ensures.found (c.find_back-back.ensures.back P P' edge.function edge.from ok ok' named (ends.from P edge ok numbered))

pub list_partners-requires : goal.list_partners-requires
list_partners-requires c =
    let facts = c.as_slice-facts.result.now in
    subst (λ n. All (λ (d : Fact). d.new < n) facts) (sym c.points.ensures.value)
    (points_seen c.args.old.now c.args.new.now c.args.walked.now.facts.items facts c.requires.within c.as_slice-facts.ensures.value)

pub find_back-back-requires-clause-within : goal.find_back-back-requires-clause-within
find_back-back-requires-clause-within c = subst (AreWithin c.args.old.now c.args.new.now) (sym c.as_slice-facts.ensures.value) c.requires.within

pub returns-clause-back : goal.returns-clause-back
returns-clause-back c =
    subst (λ (facts : List Fact). IfSome c.find_back-back.result (λ place. place < length facts)) c.as_slice-facts.ensures.value c.find_back-back.ensures.place
