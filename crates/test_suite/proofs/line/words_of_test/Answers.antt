use Rattle.std.proofs.Common.{◌≡◌, ◌∙◌, true, sym, rules}
use Rattle.std.proofs.lemmas.Slice.Eq.{bytes_eq-Decides}
use Rattle.std.specs.Str.{bytes_eq}
use Rattle.test_suite.proofs.WordLemmas.{too_many, four_words}
use Rattle.test_suite.proofs.line.words_of_test.Goals as goal

pub returns-then-is_some : goal.returns-then-is_some
returns-then-is_some c = λ name budget input has.
    let one = rw c.in_ok-first-2.was at c.in_ok-first.ensures.pieces in
    let two = rw c.in_ok-name-2.was at c.in_ok-name.ensures.pieces in
    let three = rw c.in_ok-budget-2.was at c.in_ok-budget.ensures.pieces in
    let more = sym c.is_some.ensures ∙ c.if-is_some.true in
    too_many (λ rest. rest.now) c.args.line.now c.in_ok-first-2.field-0.now c.in_ok-name-2.field-0.now c.in_ok-budget-2.field-0.now _ _ _ _ c.in_ok-input.input.rest one two three c.in_ok-input.ensures.pieces more _ _ _ _ has.0

pub returns : goal.returns
returns c =
    let one = rw c.in_ok-first-2.was at c.in_ok-first.ensures.pieces in
    let two = rw c.in_ok-name-2.was at c.in_ok-name.ensures.pieces in
    let three = rw c.in_ok-budget-2.was at c.in_ok-budget.ensures.pieces in
    let last = sym c.is_some.ensures ∙ c.if-is_some.false in
    let same : bytes_eq c.in_ok-first.first.bytes.now c.as_slice.result.now ≡ true = search rules in
    let test = (bytes_eq-Decides c.in_ok-first.first.bytes.now c.as_slice.result.now).0 same ∙ c.as_slice.ensures in
    four_words (λ rest. rest.now) c.args.line.now c.in_ok-first-2.field-0.now c.in_ok-name-2.field-0.now c.in_ok-budget-2.field-0.now c.in_ok-first.first.bytes.now c.in_ok-name.name.bytes.now c.in_ok-budget.budget.bytes.now c.in_ok-input.input.bytes.now c.in_ok-input.input.rest
    one two three c.in_ok-input.ensures.pieces last test c.in_ok-first.ensures.word.0 c.in_ok-name.ensures.word.0 c.in_ok-budget.ensures.word.0 c.in_ok-input.ensures.word.0
