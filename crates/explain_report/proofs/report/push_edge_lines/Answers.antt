use Rattle.std.proofs.Common.{◌≡◌, ◌+◌, ◌<◌, ◌++◌, Some, Vec, ℕ, Global, length, get_or, sym, subst, ◌∙◌, arith}
use Rattle.std.specs.Prelude.{slice_get}
use Rattle.std.proofs.lemmas.Option.{slice_get-get_or}
use Rattle.line_text.specs.Lines.{text_of_lines}
use Rattle.csub_semantics.specs.Flows.{edge_list}
use Rattle.flow_graph.proofs.LawsPlaces.{edges_counted}
use Rattle.explain_report.specs.WalkTexts.{edge_lines}
use Rattle.explain_report.proofs.EdgeLemmas.{no_edge, Makes, makes_next, makes_passed, makes_all}
use Rattle.explain_report.proofs.report.push_edge_lines.Goals as goal
use Rattle.explain_report.proofs.report.push_edge_lines.Goals.{then-has+in_ok-push_edge_line, else-has}

pub loop-edge-preserved : goal.loop-edge-preserved
loop-edge-preserved c P source ok table =
    let row = c.args.row.now in
    let edges = edge_list P in
    let i = c.loop-edge.edge in
    let whole = c.args.text.now.items ++ text_of_lines (edge_lines P source row 0 edges) in
    let counted = edges_counted c.args.old.now P ok in
    let within : i < length edges = omega (arith, counted, c.edges-edge-end.ensures) in
    let there : slice_get edges i ≡ Some (get_or edges i no_edge) = slice_get-get_or edges i no_edge within in
    elim c.if-has.branch [
      | then-has+in_ok-push_edge_line w ↦
          subst (λ (text : Vec ℕ Global). Makes P source row edges (i + 1) text.items whole) (sym w.text-is)
          (makes_next P source row edges i (get_or edges i no_edge) c.loop-edge.text.items w.push_edge_line.new.text.items whole
          there (sym c.has.ensures ∙ w.if-has.true) (w.in_ok-push_edge_line.ensures P source (get_or edges i no_edge) ok table there) (c.loop-edge.invariant P source ok table))
      | else-has w ↦
          subst (λ (text : Vec ℕ Global). Makes P source row edges (i + 1) text.items whole) (sym w.text-is)
          (makes_passed P source row edges i c.loop-edge.text.items whole within (sym c.has.ensures ∙ w.if-has.false) (c.loop-edge.invariant P source ok table))
    ]

pub returns : goal.returns
returns c P source ok table =
    let counted = edges_counted c.args.old.now P ok in
    makes_all P source c.args.row.now (edge_list P) c.loop-edge.edge _ _ (omega (arith, counted, c.edges-edge-end.ensures)) (c.loop-edge.invariant P source ok table)
