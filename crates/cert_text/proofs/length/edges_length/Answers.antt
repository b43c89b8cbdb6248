use Rattle.std.proofs.Common.{◌≡◌, ◌<◌, ◌+◌, ◌∙◌, true, false, length, sym, ap, arith}
use Rattle.std.specs.Fmt.{decimal}
use Rattle.edge_trace.specs.Rows.{has}
use Rattle.cert_text.specs.CertificateTexts.{edge_line}
use Rattle.cert_text.proofs.ScanLemmas.{lines_from, lines_marked, lines_unmarked, length_pushed}
use Rattle.cert_text.proofs.length.edges_length.Goals as goal
use Rattle.cert_text.proofs.length.edges_length.Goals.{then-has, else-has}

pub loop-edge-preserved : goal.loop-edge-preserved
loop-edge-preserved c =
    let row = c.args.row.now in
    let edge = c.loop-edge.edge in
    let within : edge < length row = omega (arith, c.edges-edge-end.ensures, c.loop-edge-test.true) in
    elim c.if-has.branch [
      | then-has w ↦
          let marked : has row edge ≡ true = sym c.has.ensures ∙ w.if-has.true in
          let digits : w.decimal_length.result ≡ length (decimal edge) = w.decimal_length.ensures.exact ∙ ap (λ n. length (decimal n)) w.from.ensures in
          let next = length_pushed c.loop-edge.length _ (edge_line edge) (lines_from row edge) (lines_from row (edge + 1)) c.loop-edge.invariant.exact (lines_marked row edge within marked) in
          rw w.length-is (record {
            exact = omega (arith, next, digits);
            small = omega (arith, w.decimal_length.ensures.small, c.loop-edge.invariant.small);
          })
      | else-has w ↦
          let unmarked : has row edge ≡ false = sym c.has.ensures ∙ w.if-has.false in
          rw w.length-is (record {
            exact = ap (λ r. c.loop-edge.length + length r) (sym (lines_unmarked row edge within unmarked)) ∙ c.loop-edge.invariant.exact;
            small = omega (arith, c.loop-edge.invariant.small);
          })
    ]
