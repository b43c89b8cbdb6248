use Rattle.std.proofs.Common.{◌≡◌, ◌<◌, ◌+◌, ◌∙◌, ◌++◌, ◌∷◌, [], ℤ, All, length, Some, sym, ap, subst, Vec, Global, w64, rules, arith}
use mir.Val.{SFits}
use Rattle.std.proofs.lemmas.Int.{to_z-of_z}
use Rattle.std.proofs.lemmas.List.Elements.{All-push}
use Rattle.csub_semantics.specs.Points.{exit_tree, on_case}
use Rattle.csub_semantics.specs.Syntax.{program_tree}
use Rattle.csub_semantics.specs.Flows.{point_list, edge_list}
use Rattle.flow_graph.specs.Graph.{source_at}
use Rattle.flow_graph.specs.declared.graph.WayOut.{WayOut}
use Rattle.flow_graph.proofs.LawsPlaces.{points_counted, edges_counted}
use Rattle.csub_flat.specs.Sites.{place_of}
use Rattle.csub_flat.specs.Ways.{LeadsTo}
use Rattle.csub_flat.specs.declared.ways.CaseWay.{CaseWay}
use Rattle.csub_flat.proofs.LawsSites.{place_is}
use Rattle.csub_flat.proofs.Choices.{ListsBefore, leaving, leads, not_case, listed_more, listed_past, listed_all}
use Rattle.csub_flat.proofs.ways.list_cases.Goals as goal
use Rattle.csub_flat.proofs.ways.list_cases.Goals.{in-Case+in_ok-push, in_default}

pub loop-edge-init : goal.loop-edge-init
loop-edge-init c = record {
  each = subst (All (λ (r : CaseWay). LeadsTo (program_tree c.args.program.now) c.args.point (on_case r.value) r.way)) (sym c.new-rows.ensures.items) (λ i d less. absurd (omega arith));
  listed = λ v none e less leaves d is same.
      let P = program_tree c.args.program.now in
      let within = (c.edges_of-edges.ensures.edges P (place_of P c.args.point) e c.requires.graph (place_is P c.args.point c.requires.point)).1 leaves in
      omega (arith, less, within.0);
}

pub loop-edge-preserved : goal.loop-edge-preserved
loop-edge-preserved c = elim c.match-ends.branch [
  | in-Case+in_ok-push w ↦
      let P = program_tree c.args.program.now in
      let n = c.args.point in
      let e = c.loop-edge.edge in
      let points = points_counted c.args.graph.now P c.requires.graph in
      let edges = edges_counted c.args.graph.now P c.requires.graph in
      let all = c.edges_of-edges.ensures.within.1 in
      let inside : e < length (edge_list P) = omega (arith, c.loop-edge-test.true) in
      let source : source_at P e ≡ Some (place_of P n) = (c.edges_of-edges.ensures.edges P (place_of P n) e c.requires.graph (place_is P n c.requires.point)).0 (c.loop-edge.auto.edge, c.loop-edge-test.true) in
      let d = leaving P e (place_of P n) source in
      let says = c.edge_at-ends.ensures in
      let way : WayOut = record { edge = e; to = c.edge_at-ends.result.to } in
      let to : way.to < length (point_list P) = omega (arith, says.to_within) in
      let value = w.in-Case.value in
      let exit = ap exit_tree w.in-Case.is in
      let here = leads P c.requires.graph.valid n way d.0 d.2 d.1 inside (says.to P d.0 c.requires.graph d.1) to (on_case value) (sym (says.exit P d.0 c.requires.graph d.1) ∙ exit) in
      let row : CaseWay = record { value = value; way = way } in
      let rows = c.loop-edge.rows.items in
      let fits : SFits w64 value = search rules in
      let grown : c.match-ends.rows.items ≡ rows ++ row ∷ [] =
      ap (λ (v : Vec CaseWay Global). v.items) w.rows-is ∙ w.in_ok-push.ensures.items ∙ ap (λ (v : ℤ). let r : CaseWay = record { value = v; way = way } in rows ++ r ∷ []) (to_z-of_z w64 value fits) in
      record {
        each = subst (All (λ (r : CaseWay). LeadsTo P n (on_case r.value) r.way)) (sym grown) (All-push (λ (r : CaseWay). LeadsTo P n (on_case r.value) r.way) rows row c.loop-edge.invariant.each here);
        listed = subst (λ xs. ListsBefore P n xs (e + 1)) (sym grown) (listed_more P n rows row e c.loop-edge.invariant.listed (λ x is. sym (says.exit P x c.requires.graph is) ∙ exit));
      }
  | in_default w ↦
      let P = program_tree c.args.program.now in
      let n = c.args.point in
      let e = c.loop-edge.edge in
      let rows = c.loop-edge.rows.items in
      let same : c.match-ends.rows.items ≡ rows = ap (λ (v : Vec CaseWay Global). v.items) w.rows-is in
      record {
        each = subst (All (λ (r : CaseWay). LeadsTo P n (on_case r.value) r.way)) (sym same) c.loop-edge.invariant.each;
        listed = subst (λ xs. ListsBefore P n xs (e + 1)) (sym same)
            (listed_past P n rows e c.loop-edge.invariant.listed (λ x v is case. not_case c.edge_at-ends.result.exit.now v (c.edge_at-ends.ensures.exit P x c.requires.graph is ∙ case) w.in_default.not-Case));
      }
]

pub returns : goal.returns
returns c = record {
  each = c.loop-edge.invariant.each;
  none = listed_all (program_tree c.args.program.now) c.args.point c.loop-edge.rows.items c.loop-edge.edge c.loop-edge.invariant.listed
      (λ e leaves.
      let P = program_tree c.args.program.now in
      let within = (c.edges_of-edges.ensures.edges P (place_of P c.args.point) e c.requires.graph (place_is P c.args.point c.requires.point)).1 leaves in
      omega (arith, within.1, c.loop-edge-test.false));
}
