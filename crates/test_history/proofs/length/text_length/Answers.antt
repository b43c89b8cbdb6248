use Rattle.std.proofs.Common.{◌≡◌, length, arith}
use Rattle.std.specs.Fmt.{decimal}
use Rattle.std.specs.List.{flat_map}
use Rattle.line_text.specs.Lines.{text_of_lines}
use Rattle.test_history.specs.declared.version.Version.TheVariants.{Third}
use Rattle.test_history.specs.HistoryTexts.{entry_lines}
use Rattle.test_history.proofs.LengthLemmas.{length-history_text}
use Rattle.test_history.proofs.length.text_length.Goals as goal

pub returns : goal.returns
returns c =
    let size : length c.args.history.now.digest ≡ 32 = c.digest.ensures.size in
    let edges : c.decimal_length.result ≡ length (decimal c.args.history.now.edges) = cc in
    let tests : c.decimal_length-2.result ≡ length (decimal (length c.args.history.now.entries)) = cc in
    let entries : c.entries_length.result ≡ length (text_of_lines (flat_map (entry_lines Third) c.args.history.now.entries)) = cc in
    let whole = length-history_text c.args.history.now in
    omega arith
