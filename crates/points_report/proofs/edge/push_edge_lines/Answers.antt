use Rattle.std.proofs.Common.{◌≡◌, ℕ, ◌+◌, ◌-◌, ◌<◌, ◌++◌, ◌∷◌, [], length, Some, refl, ap, ◌∙◌, arith}
use Rattle.std.specs.Prelude.{slice_get}
use Rattle.std.specs.Option.{option_map}
use Rattle.std.specs.declared.ops.Range.{Range}
use Rattle.line_text.specs.Lines.{text_of_lines}
use Rattle.csub_semantics.specs.Syntax.{ProgramTree}
use Rattle.csub_semantics.specs.Flows.{PlacedNode, point_list, edges_from}
use Rattle.csub_semantics.specs.Numbers.{site_of, site_at, edge_at}
use Rattle.flow_graph.specs.Graph.{IsGraphOf}
use Rattle.points_report.specs.PointTexts.{edge_line, edge_lines, first_edge}
use Rattle.points_report.proofs.Numbers.{element, ways_told, edge_told, begins}
use Rattle.points_report.proofs.Told.{MakesEdges, edges_first, edges_next, edges_last}
use Rattle.points_report.proofs.edge.push_edge_lines.Goals as goal

pub loop-edge-init : goal.loop-edge-init
loop-edge-init c = record {
  can = tt;
  finite = tt;
  within = let within = c.edges_of-edge-items.ensures.within.1 in omega (arith, ends, within);
  made = made;
}
  where
    starts : c.into_iter-edge-iterator.result.start ≡ c.edges_of-edge-items.result.start
    starts = ap (λ (r : Range ℕ). r.start) c.into_iter-edge-iterator.ensures.into_iter_gives

    ends : c.into_iter-edge-iterator.result.end ≡ c.edges_of-edge-items.result.end
    ends = ap (λ (r : Range ℕ). r.end) c.into_iter-edge-iterator.ensures.into_iter_gives

    made : (P : ProgramTree) (n : PlacedNode) → IsGraphOf c.args.graph.now P → slice_get (point_list P) c.args.point ≡ Some n
        → MakesEdges P c.args.point (edges_from n) c.into_iter-edge-iterator.result.start c.into_iter-edge-iterator.result.end c.args.text.now.items
        (c.args.text.now.items ++ text_of_lines (edge_lines P c.args.point (first_edge P c.args.point) (edges_from n)))
    made P n ok stands =
        let start = c.edges_of-edge-items.result.start in
        let end = c.edges_of-edge-items.result.end in
        let count : end ≡ start + length (edges_from n) = c.edges_of-edge-items.ensures.count ∙ ap (λ k. start + k) (ways_told c.args.graph.now P c.args.point n ok stands) in
        let at : site_at P c.args.point ≡ Some (site_of n) = ap (option_map site_of) stands in
        edges_first P c.args.point (edges_from n) c.into_iter-edge-iterator.result.start c.into_iter-edge-iterator.result.end c.args.text.now.items _ (omega (arith, starts, ends, count))
        (λ some. starts ∙ begins P c.args.point n start end stands (λ e source. (c.edges_of-edge-items.ensures.edges P (site_of n) e ok at).1 source) count some) refl

pub push_edge_line-requires : goal.push_edge_line-requires
push_edge_line-requires c =
    let is = c.in-Some.ensures.steps.1.1 in
    let more = c.in-Some.ensures.steps.1.0 in
    let within = c.loop-edge.invariant.within in
    omega (arith, is, more, within)

pub loop-edge-preserved : goal.loop-edge-preserved
loop-edge-preserved c = record {
  can = tt;
  finite = tt;
  within = let within = c.loop-edge.invariant.within in omega (arith, ends, within);
  made = made;
}
  where
    ends : c.next.new.self.end ≡ c.loop-edge.edge-iterator.end
    ends = c.in-Some.ensures.steps.0

    taken : c.in-Some.edge ≡ c.loop-edge.edge-iterator.start
    taken = c.in-Some.ensures.steps.1.1

    onward : c.next.new.self.start ≡ c.loop-edge.edge-iterator.start + 1
    onward = c.in-Some.ensures.steps.1.2

    less : c.loop-edge.edge-iterator.start < c.loop-edge.edge-iterator.end
    less = let more = c.in-Some.ensures.steps.1.0 in omega (arith, more)

    made : (P : ProgramTree) (n : PlacedNode) → IsGraphOf c.args.graph.now P → slice_get (point_list P) c.args.point ≡ Some n
        → MakesEdges P c.args.point (edges_from n) c.next.new.self.start c.next.new.self.end c.push_edge_line.new.text.items
        (c.args.text.now.items ++ text_of_lines (edge_lines P c.args.point (first_edge P c.args.point) (edges_from n)))
    made P n ok stands =
        let m = c.loop-edge.invariant.made P n ok stands in
        let left = m.left in
        let few : m.told < length (edges_from n) = omega (arith, less, left) in
        let edge = element (edges_from n) m.told few in
        let numbered : edge_at P c.in-Some.edge ≡ Some edge.0 = ap (edge_at P) (taken ∙ m.at few) ∙ edge_told P c.args.point n m.told edge.0 stands edge.1 in
        let line : c.push_edge_line.new.text.items ≡ c.loop-edge.text.items ++ edge_line P c.args.point c.in-Some.edge edge.0 ++ 10 ∷ [] = c.in_ok-push_edge_line.ensures P edge.0 ok numbered in
        edges_next P c.args.point (edges_from n) c.loop-edge.edge-iterator.start c.loop-edge.edge-iterator.end c.next.new.self.start c.next.new.self.end edge.0
        c.loop-edge.text.items c.push_edge_line.new.text.items _ m less edge.1
        (line ∙ ap (λ e. c.loop-edge.text.items ++ edge_line P c.args.point e edge.0 ++ 10 ∷ []) taken) onward ends

pub returns : goal.returns
returns c P n ok stands =
    let none = c.in-None.ensures.steps.1.0 in
    let whole = c.args.text.now.items ++ text_of_lines (edge_lines P c.args.point (first_edge P c.args.point) (edges_from n)) in
    edges_last P c.args.point (edges_from n) c.loop-edge.edge-iterator.start c.loop-edge.edge-iterator.end c.loop-edge.text.items whole (c.loop-edge.invariant.made P n ok stands) (omega (arith, none))
