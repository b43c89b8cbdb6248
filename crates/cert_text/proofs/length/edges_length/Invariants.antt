use Rattle.std.proofs.Common.{◌≡◌, ◌+◌, ◌*◌, ◌≤◌, length, map}
use Rattle.line_text.specs.Lines.{text_of_lines}
use Rattle.edge_trace.specs.Rows.{numbers_of}
use Rattle.cert_text.specs.CertificateTexts.{edge_line}
use Rattle.cert_text.proofs.ScanLemmas.{lines_from}
use Rattle.cert_text.proofs.length.edges_length.Given as goal

abbrev pub invariant-loop-edge : goal.invariant-loop-edge
invariant-loop-edge l = record {
  exact : l.length + length (lines_from l.row l.edge) ≡ length (text_of_lines (map edge_line (numbers_of l.row)));
  small : l.length ≤ 30 * l.edge;
}
