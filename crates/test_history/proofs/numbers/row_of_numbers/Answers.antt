use Rattle.std.proofs.Common.{◌≡◌, ◌≢◌, ◌∙◌, true, false, codes, length, replicate, ap, sym, rules}
use Rattle.std.specs.Str.{bytes_eq}
use Rattle.std.proofs.lemmas.List.{length-replicate}
use Rattle.std.proofs.lemmas.Slice.Eq.{bytes_eq-Decides}
use Rattle.edge_trace.specs.Rows.{numbers_of}
use Rattle.edge_trace.proofs.LawsOfNumbers.{AreRising-numbers_of}
use Rattle.test_history.proofs.NumbersLemmas.{dash_line, words_are, pieces_are}
use Rattle.test_history.proofs.numbers.row_of_numbers.Goals as goal

pub returns-then-eq : goal.returns-then-eq
returns-then-eq c =
    let same : bytes_eq c.args.words.now c.as_slice.result.now ≡ true = search rules in
    let dash : c.args.words.now ≡ codes "-" = (bytes_eq-Decides c.args.words.now c.as_slice.result.now).0 same ∙ c.as_slice.ensures in
    let size : length c.in_ok-row.row ≡ c.args.edges = ap length c.in_ok-row.ensures ∙ length-replicate c.args.edges false in
    let empty : c.in_ok-row.row ≡ replicate (length c.in_ok-row.row) false = c.in_ok-row.ensures ∙ ap (λ n. replicate n false) (sym size) in
    (size, dash ∙ sym (dash_line c.in_ok-row.row empty))

pub returns-then-set_numbers : goal.returns-then-set_numbers
returns-then-set_numbers c =
    let size : length c.in_ok-row.row ≡ c.args.edges = ap length c.in_ok-row.ensures ∙ length-replicate c.args.edges false in
    (c.if-set_numbers.ensures.edges ∙ size, words_are c.args.words.now _ c.if-set_numbers.ensures.numbers)

pub returns-else-set_numbers : goal.returns-else-set_numbers
returns-else-set_numbers c = λ row bound is.
    let unlike : bytes_eq c.args.words.now c.as_slice.result.now ≡ false = search rules in
    let other : c.args.words.now ≢ codes "-" = λ dash. cc ((bytes_eq-Decides c.args.words.now c.as_slice.result.now).1 (dash ∙ sym c.as_slice.ensures), unlike) in
    let size : length c.in_ok-row.row ≡ c.args.edges = ap length c.in_ok-row.ensures ∙ length-replicate c.args.edges false in
    c.if-set_numbers.ensures.numbers row (bound ∙ sym size)
    (pieces_are c.args.edges c.args.words.now (numbers_of row) c.ranges.edges.fits (AreRising-numbers_of row c.args.edges bound) other is)
