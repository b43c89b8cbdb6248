-- The lengths of a history's lines.
use Rattle.std.proofs.Common.{◌≡◌, ℕ, ◌+◌, ◌*◌, ◌/◌, ◌<◌, Bool, List, [], ◌∷◌, ◌++◌, length, codes, ap, ◌∙◌, arith, length-append}
use Rattle.std.specs.Fmt.{decimal}
use Rattle.std.specs.List.{flat_map}
use Rattle.std.proofs.lemmas.Fmt.{decimal_digit}
use Rattle.hex.specs.Hex.{encode_lower, lower_digits}
use Rattle.hex.proofs.HexLemmas.{length-encode_with}
use Rattle.sha2.specs.Sha256.{sha256}
use Rattle.line_text.specs.Lines.{text_of_lines}
use Rattle.line_text.proofs.Laws.{length-bytes_or_dash}
use Rattle.line_text.proofs.LawsOfDigests.{length-sha256}
use Rattle.test_history.specs.declared.version.Version.TheVariants.{Third}
use Rattle.test_history.specs.Histories.{HistoryParts}
use Rattle.line_text.specs.Values.{value_line}
use Rattle.test_history.specs.HistoryTexts.{entry_lines, first_lines, end_line, text_before_end, history_text, version_line, crossed_line, row_bytes}
use Rattle.test_history.proofs.BitsLemmas.{length-row_bytes}

length-four : (a b c d : List ℕ) → length (text_of_lines (a ∷ b ∷ c ∷ d ∷ [])) ≡ 4 + length a + length b + length c + length d
length-four a b c d = simp length-append (omega arith)

length-parts : (first entries end : List ℕ) → length ((first ++ entries) ++ text_of_lines (end ∷ [])) ≡ length first + length entries + length end + 1
length-parts first entries end = simp length-append (omega arith)

pub length-history_text : (history : HistoryParts) → length (history_text history)
    ≡ 108 + 2 * length history.digest + length (decimal history.edges) + length (decimal (length history.entries)) + length (text_of_lines (flat_map (entry_lines Third) history.entries))
length-history_text history =
    let one_digit : length (decimal 3) ≡ 1 = ap length (decimal_digit 3 (omega arith)) in
    let first = length-four (version_line Third) (value_line (codes "source") (encode_lower history.digest))
    (value_line (codes "edges") (decimal history.edges)) (value_line (codes "tests") (decimal (length history.entries))) in
    length-parts (text_of_lines (first_lines Third history)) (text_of_lines (flat_map (entry_lines Third) history.entries)) (end_line (text_before_end Third history))
    ∙ omega (arith, first, one_digit, length-encode_with lower_digits history.digest, length-encode_with lower_digits (sha256 (text_before_end Third history)), length-sha256 (text_before_end Third history))

-- the line of the crossed edges
pub length-crossed_line : (row : List Bool) → 0 < length row → length (crossed_line Third row) ≡ 8 + 2 * ((length row + 7) / 8)
length-crossed_line row some = omega (arith, length-row_bytes row, length-bytes_or_dash (row_bytes row) (omega (arith, length-row_bytes row)))
