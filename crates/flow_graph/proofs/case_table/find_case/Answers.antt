use Rattle.std.proofs.Common.{◌∙◌, ap, w64}
use Rattle.std.proofs.lemmas.Int.{to_z-of_z}
use Rattle.flow_graph.specs.Cases.{place_in}
use Rattle.flow_graph.proofs.case_table.find_case.Goals as goal

pub returns : goal.returns
returns c = c.in_ok-place.ensures.value ∙ ap (place_in c.args.cases.now c.args.point) (to_z-of_z w64 c.args.value c.ranges.value)

pub returns-in_err-place : goal.returns-in_err-place
returns-in_err-place c = c.from_residual.ensures ∙ c.in_err-place.ensures.value ∙ ap (place_in c.args.cases.now c.args.point) (to_z-of_z w64 c.args.value c.ranges.value)
