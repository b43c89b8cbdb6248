use Rattle.std.proofs.Common.{◌≡◌, ◌++◌, subst}
use Rattle.std.specs.Prelude.{OnOk}
use Rattle.csub_semantics.specs.Points.{exit_tree}
use Rattle.csub_semantics.specs.Numbers.{site}
use Rattle.explain_report.proofs.FollowLemmas.{leads_there, placed_there, some_told}
use Rattle.explain_report.proofs.told.push_new_place.Goals as goal

pub returns-in-Some : goal.returns-in-Some
returns-in-Some c P' source f other ok table at =
    let x = exit_tree c.args.exit.now in
    let next = c.in-Some.next in
    let leads = leads_there c.args.new.now P' ok f other x next c.in-Some.ensures.within (c.in-Some.ensures.leads P' (site f other) ok at) in
    let there = placed_there c.args.new.now P' ok f other x source next leads in
    subst (λ place. OnOk c.push_place.result (c.push_place.new.text.items ≡ c.args.text.now.items ++ place))
    (some_told c.args.new.now P' ok f other x source next leads c.span_at.result c.place_of.result (c.span_at.ensures P' there.point ok there.there) (c.place_of.ensures source table)) c.push_place.ensures
