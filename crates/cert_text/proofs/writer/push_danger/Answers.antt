use Rattle.std.proofs.Common.{◌≡◌, ◌∙◌, ◌+◌, ◌<◌, ◌++◌, ◌∷◌, [], true, false, length, codes, refl, sym, ap, arith}
use Rattle.std.specs.Fmt.{decimal}
use Rattle.edge_trace.specs.Rows.{has, numbers_of}
use Rattle.line_text.specs.Lines.{text_of_lines}
use Rattle.cert_text.specs.CertificateTexts.{edge_line, danger_lines}
use Rattle.line_text.specs.Values.{value_line}
use Rattle.edge_trace.proofs.LawsOfNumbers.{length-numbers_of}
use Rattle.cert_text.proofs.ScanLemmas.{lines_from, lines_marked, lines_unmarked, lines_first, line_pushed}
use Rattle.cert_text.proofs.writer.push_danger.Goals as goal
use Rattle.cert_text.proofs.writer.push_danger.Goals.{then-has+in_ok-push_number_line-2, else-has}

pub loop-edge-init : goal.loop-edge-init
loop-edge-init c =
    let row = c.args.row.now in
    let text = c.args.text.now.items in
    let count : c.from.result ≡ length (numbers_of row) = c.from.ensures ∙ c.count.ensures ∙ sym (length-numbers_of row) in
    let head = value_line (codes "dangerous") (decimal (length (numbers_of row))) in
    let pushed : c.push_number_line.new.text.items ≡ (text ++ head) ++ 10 ∷ [] = c.in_ok-push_number_line.ensures ∙ ap (λ n. (text ++ value_line (codes "dangerous") (decimal n)) ++ 10 ∷ []) count in
    ap (λ t. t ++ lines_from row 0) pushed
    ∙ line_pushed text (text ++ text_of_lines (danger_lines row)) head (text_of_lines (danger_lines row)) (lines_from row 0) refl (ap (λ r. head ++ 10 ∷ r) (sym (lines_first row)))

pub loop-edge-preserved : goal.loop-edge-preserved
loop-edge-preserved c =
    let row = c.args.row.now in
    let edge = c.loop-edge.edge in
    let whole = c.args.text.now.items ++ text_of_lines (danger_lines row) in
    let within : edge < length row = omega (arith, c.edges-edge-end.ensures, c.loop-edge-test.true) in
    elim c.if-has.branch [
      | then-has+in_ok-push_number_line-2 w ↦
          let marked : has row edge ≡ true = sym c.has.ensures ∙ w.if-has.true in
          rw w.text-is
          (ap (λ t. t ++ lines_from row (edge + 1)) (w.in_ok-push_number_line-2.ensures ∙ ap (λ n. (c.loop-edge.text.items ++ value_line (codes "edge") (decimal n)) ++ 10 ∷ []) w.from-then-has.ensures)
          ∙ line_pushed c.loop-edge.text.items whole (edge_line edge) (lines_from row edge) (lines_from row (edge + 1)) c.loop-edge.invariant (lines_marked row edge within marked))
      | else-has w ↦
          let unmarked : has row edge ≡ false = sym c.has.ensures ∙ w.if-has.false in
          rw w.text-is (ap (λ r. c.loop-edge.text.items ++ r) (sym (lines_unmarked row edge within unmarked)) ∙ c.loop-edge.invariant)
    ]
