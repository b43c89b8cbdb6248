use Rattle.std.proofs.Common.{◌≡◌, ◌<◌, ◌-◌, ◌∙◌, inl, inr, length, Some, sym, ap, arith}
use Rattle.std.proofs.lemmas.Bool.{cases_lt}
use Rattle.csub_semantics.specs.Points.{exit_tree}
use Rattle.csub_semantics.specs.Syntax.{program_tree}
use Rattle.csub_semantics.specs.Flows.{point_list, edge_list}
use Rattle.csub_semantics.specs.Numbers.{edge_at}
use Rattle.flow_graph.specs.Graph.{source_at}
use Rattle.flow_graph.specs.declared.graph.WayOut.{WayOut}
use Rattle.flow_graph.proofs.LawsPlaces.{points_counted, edges_counted}
use Rattle.csub_flat.specs.Sites.{place_of}
use Rattle.csub_flat.proofs.LawsSites.{place_is}
use Rattle.csub_flat.proofs.Choices.{leaving, default_leads, not_default, no_default}
use Rattle.csub_flat.proofs.ways.default_way.Goals as goal

pub returns-in-Default-clause-some : goal.returns-in-Default-clause-some
returns-in-Default-clause-some c =
    let P = program_tree c.args.program.now in
    let n = c.args.point in
    let e = c.loop-edge.edge - 1 in
    let points = points_counted c.args.graph.now P c.requires.graph in
    let edges = edges_counted c.args.graph.now P c.requires.graph in
    let most = c.loop-edge.auto.edge in
    let some = c.loop-edge-test.true in
    let all = c.edges_of-edges.ensures.within.1 in
    let inside : e < length (edge_list P) = omega arith in
    let source : source_at P e ≡ Some (place_of P n) = (c.edges_of-edges.ensures.edges P (place_of P n) e c.requires.graph (place_is P n c.requires.point)).0 (omega arith, omega arith) in
    let d = leaving P e (place_of P n) source in
    let says = c.edge_at-ends.ensures in
    let way : WayOut = record { edge = e; to = c.edge_at-ends.result.to } in
    let to : way.to < length (point_list P) = omega (arith, says.to_within) in
    default_leads P c.requires.graph.valid n way d.0 d.2 d.1 inside (says.to P d.0 c.requires.graph d.1) to c.in-Default.field-0.items (sym (says.exit P d.0 c.requires.graph d.1) ∙ ap exit_tree c.in-Default.is)

pub loop-edge-init : goal.loop-edge-init
loop-edge-init c = λ e past leaves d vs is same.
    let P = program_tree c.args.program.now in
    let within = (c.edges_of-edges.ensures.edges P (place_of P c.args.point) e c.requires.graph (place_is P c.args.point c.requires.point)).1 leaves in
    omega (arith, past, within.1)

pub loop-edge-preserved : goal.loop-edge-preserved
loop-edge-preserved c = λ e past leaves d vs is same. elim (cases_lt (c.loop-edge.edge - 1) e) [
  | inl later ↦ c.loop-edge.invariant e (omega (arith, later, c.loop-edge-test.true)) leaves d vs is same
  | inr not_later ↦
      let P = program_tree c.args.program.now in
      let here : e ≡ c.loop-edge.edge - 1 = omega arith in
      let exit = c.edge_at-ends.ensures.exit P d c.requires.graph (ap (edge_at P) (sym here) ∙ is) in
      not_default c.edge_at-ends.result.exit.now vs (exit ∙ same) c.in_default.not-Default
]

pub returns-clause-none : goal.returns-clause-none
returns-clause-none c =
    let P = program_tree c.args.program.now in
    no_default P c.args.point
    (λ e leaves.
    let within = (c.edges_of-edges.ensures.edges P (place_of P c.args.point) e c.requires.graph (place_is P c.args.point c.requires.point)).1 leaves in
    c.loop-edge.invariant e (omega (arith, within.0, c.loop-edge-test.false)) leaves)
