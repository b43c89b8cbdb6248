use Rattle.std.proofs.Common.{◌∙◌, refl, ap, subst, map, length, arith}
use Rattle.std.specs.List.{sum_by}
use Rattle.csub_semantics.specs.Types.{global_tree}
use Rattle.csub_semantics.specs.Syntax.{function_tree, program_tree}
use Rattle.flow_graph.specs.Numbers.{count_program, program_numbered, functions_numbered}
use Rattle.flow_graph.specs.Cases.{AreEntered}
use Rattle.flow_graph.specs.Names.{AreNamed}
use Rattle.flow_graph.specs.Graph.{way_count, firsts_of, sources_of}
use Rattle.flow_graph.proofs.Whole.{is_graph, is_closed, program_points}
use Rattle.flow_graph.proofs.graph.Graph.build.Goals as goal

pub list_points-requires-clause-few_points : goal.list_points-requires-clause-few_points
list_points-requires-clause-few_points c =
    let P = program_tree c.args.program.now in
    let same = ap (λ fs. count_program (map function_tree fs)) c.functions.ensures.value in
    let counted = program_points P.functions in
    let few = c.functions.ensures.valid.points in
    omega arith

pub number_edges-requires-clause-few_points : goal.number_edges-requires-clause-few_points
number_edges-requires-clause-few_points c =
    let P = program_tree c.args.program.now in
    let trees = ap (map function_tree) c.functions.ensures.value in
    let made = c.in_ok-functions.field-0 in
    let g = is_graph P made.functions.items made.points.items c.args.program.now.globals c.functions.ensures.valid (c.in_ok-functions.ensures.functions ∙ ap (λ Q. functions_numbered Q 0) trees) (c.in_ok-functions.ensures.points ∙ ap (λ Q. program_numbered Q 0 0) trees) refl in
    let few = (is_closed P made.functions.items made.points.items c.args.program.now.globals g).few_points in
    let same = ap length c.as_slice.ensures.value in
    omega arith

pub number_edges-requires-clause-few_edges : goal.number_edges-requires-clause-few_edges
number_edges-requires-clause-few_edges c =
    let P = program_tree c.args.program.now in
    let trees = ap (map function_tree) c.functions.ensures.value in
    let made = c.in_ok-functions.field-0 in
    let g = is_graph P made.functions.items made.points.items c.args.program.now.globals c.functions.ensures.valid (c.in_ok-functions.ensures.functions ∙ ap (λ Q. functions_numbered Q 0) trees) (c.in_ok-functions.ensures.points ∙ ap (λ Q. program_numbered Q 0 0) trees) refl in
    let few = (is_closed P made.functions.items made.points.items c.args.program.now.globals g).few_edges in
    let same = ap (sum_by way_count) c.as_slice.ensures.value in
    omega arith

pub invariant_of-result : goal.invariant_of-result
invariant_of-result c =
    let P = program_tree c.args.program.now in
    let trees = ap (map function_tree) c.functions.ensures.value in
    let made = c.in_ok-functions.field-0 in
    let g = is_graph P made.functions.items made.points.items c.in_ok-globals.globals.items c.functions.ensures.valid (c.in_ok-functions.ensures.functions ∙ ap (λ Q. functions_numbered Q 0) trees) (c.in_ok-functions.ensures.points ∙ ap (λ Q. program_numbered Q 0 0) trees) (c.in_ok-globals.ensures ∙ ap (map global_tree) c.globals.ensures) in
    (is_closed P made.functions.items made.points.items c.in_ok-globals.globals.items g, c.in_ok-firsts.ensures.firsts ∙ ap (λ ps. firsts_of ps 0) c.as_slice.ensures.value, c.in_ok-firsts.ensures.sources ∙ ap (λ ps. sources_of ps 0) c.as_slice.ensures.value, subst (λ ps. AreEntered ps c.in_ok-cases.cases) c.as_slice-2.ensures.value c.in_ok-cases.ensures, (P, g), subst (λ fs. AreNamed fs c.in_ok-names.names) c.as_slice-3.ensures.value c.in_ok-names.ensures)

pub returns : goal.returns
returns c =
    let P = program_tree c.args.program.now in
    let trees = ap (map function_tree) c.functions.ensures.value in
    let made = c.in_ok-functions.field-0 in
    is_graph P made.functions.items made.points.items c.in_ok-globals.globals.items c.functions.ensures.valid (c.in_ok-functions.ensures.functions ∙ ap (λ Q. functions_numbered Q 0) trees) (c.in_ok-functions.ensures.points ∙ ap (λ Q. program_numbered Q 0 0) trees) (c.in_ok-globals.ensures ∙ ap (map global_tree) c.globals.ensures)
