use Rattle.std.proofs.Common.{◌≡◌, ◌≤◌, ◌∙◌, ◌++◌, ◌∷◌, [], ap, length, arith, append_assoc}
use Rattle.sha2.specs.Sha256.{sha256}
use Rattle.line_text.specs.Lines.{text_of_lines}
use Rattle.cert_text.specs.CertificateTexts.{certificate_text, first_lines, danger_lines, pairs_lines, end_line}
use Rattle.cert_text.proofs.writer.write_certificate.Goals as goal

pub returns-clause-text : goal.returns-clause-text
returns-clause-text c =
    let parts = c.args.certificate.now in
    let first = c.in_ok-push_first_lines.ensures ∙ ap (λ t. t ++ text_of_lines (first_lines parts)) c.in_ok-text.ensures.items in
    let danger = c.in_ok-push_danger.ensures ∙ ap (λ t. t ++ text_of_lines (danger_lines c.danger.result.now)) first ∙ ap (λ row. text_of_lines (first_lines parts) ++ text_of_lines (danger_lines row)) c.danger.ensures in
    let pairs = c.in_ok-push_pairs.ensures ∙ ap (λ t. t ++ text_of_lines (pairs_lines c.pairs.result.now)) danger
    ∙ ap (λ ps. (text_of_lines (first_lines parts) ++ text_of_lines (danger_lines parts.danger)) ++ text_of_lines (pairs_lines ps)) c.pairs.ensures in
    let before = append_assoc (text_of_lines (first_lines parts)) (text_of_lines (danger_lines parts.danger)) (text_of_lines (pairs_lines parts.pairs)) in
    c.in_ok-push_end.ensures ∙ ap (λ t. t ++ text_of_lines (end_line (sha256 t) ∷ [])) (pairs ∙ before)

pub returns-clause-short : goal.returns-clause-short
returns-clause-short c =
    let size : length c.push_end.new.text.items ≡ length (certificate_text c.args.certificate.now) = ap length (returns-clause-text c) in
    let bounded : length (certificate_text c.args.certificate.now) ≤ 134217728 = omega (arith, c.text_length-length.ensures) in
    omega arith
