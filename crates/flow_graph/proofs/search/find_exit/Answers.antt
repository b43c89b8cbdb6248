use Rattle.std.proofs.Common.{◌∙◌, rules, w64, ap, sym}
use mir.Val.{SFits}
use Rattle.std.specs.List.{slice_get, find}
use Rattle.std.specs.Option.{option_and_then}
use Rattle.std.proofs.lemmas.Int.{to_z-of_z}
use Rattle.csub_semantics.specs.Points.{exit_tree, exit_eq}
use Rattle.flow_graph.specs.Cases.{place_in}
use Rattle.flow_graph.proofs.search.find_exit.Goals as goal

pub returns-in-Case-clause-found : goal.returns-in-Case-clause-found
returns-in-Case-clause-found c =
    let fits : SFits w64 c.in-Case.value = search rules in
    let place = c.find_case.ensures ∙ ap (place_in c.args.cases.now c.args.point) (to_z-of_z w64 c.in-Case.value fits) in
    ap (option_and_then (slice_get c.args.ways.now)) place ∙ c.requires.found c.in-Case.value
    ∙ ap (λ x. find (λ w. exit_eq (exit_tree w.exit) (exit_tree x)) c.args.ways.now) (sym c.in-Case.is)
