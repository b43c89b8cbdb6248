use Rattle.std.proofs.Common.{◌≡◌, length, map, ◌∙◌, sym, ap, arith}
use Rattle.std.specs.Fmt.{decimal}
use Rattle.edge_trace.specs.Rows.{size, numbers_of}
use Rattle.line_text.specs.Lines.{text_of_lines}
use Rattle.cert_text.specs.CertificateTexts.{edge_line, pair_line}
use Rattle.edge_trace.proofs.LawsOfNumbers.{length-numbers_of}
use Rattle.cert_text.proofs.ScanLemmas.{length-certificate_text}
use Rattle.cert_text.proofs.length.text_length.Goals as goal

pub returns : goal.returns
returns c =
    let parts = c.args.certificate.now in
    let count : c.decimal_length.result ≡ length (decimal (length (numbers_of parts.danger))) =
    c.decimal_length.ensures.exact ∙ ap (λ n. length (decimal n)) (c.from.ensures ∙ c.count.ensures ∙ ap size c.danger.ensures ∙ sym (length-numbers_of parts.danger)) in
    let edges : c.edges_length.result ≡ length (text_of_lines (map edge_line (numbers_of parts.danger))) =
    c.edges_length.ensures.exact ∙ ap (λ row. length (text_of_lines (map edge_line (numbers_of row)))) c.danger-2.ensures in
    let few : c.decimal_length-2.result ≡ length (decimal (length parts.pairs)) = c.decimal_length-2.ensures.exact ∙ ap (λ ps. length (decimal (length ps))) c.pairs-pairs.ensures in
    let pairs : c.pairs_length.result ≡ length (text_of_lines (map pair_line parts.pairs)) = c.pairs_length.ensures.exact ∙ ap (λ ps. length (text_of_lines (map pair_line ps))) c.pairs-pairs.ensures in
    omega (arith, c.old_digest.ensures.size, c.new_digest.ensures.size, length-certificate_text parts)
