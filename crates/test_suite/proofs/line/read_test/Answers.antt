use Rattle.std.proofs.Common.{◌<◌, ◌∙◌, length, ap, arith}
use Rattle.hex.specs.Hex.{IsBytes}
use Rattle.line_text.specs.Lines.{line_with}
use Rattle.test_suite.specs.Tests.{TestParts, most_input}
use Rattle.test_suite.proofs.LineLemmas.{not_ended, no_words, no_name, no_budget, no_input, long_input, line_of_test}
use Rattle.test_suite.proofs.line.read_test.Goals as goal

pub returns-then-not-line-clause-fault : goal.returns-then-not-line-clause-fault
returns-then-not-line-clause-fault c = not_ended (line_with c.args.line.now.bytes.now c.args.line.now.is_ended) c.if-not-line.true

pub returns-in_default-clause-fault : goal.returns-in_default-clause-fault
returns-in_default-clause-fault c = no_words (line_with c.args.line.now.bytes.now c.args.line.now.is_ended) c.if-not-line.false c.in_default.ensures

pub returns-then-not-is_test_name-clause-fault : goal.returns-then-not-is_test_name-clause-fault
returns-then-not-is_test_name-clause-fault c =
    no_name (line_with c.args.line.now.bytes.now c.args.line.now.is_ended) c.in-Some.words.name.now c.in-Some.words.budget.now c.in-Some.words.input.now c.if-not-line.false c.in-Some.ensures
    (λ good. cc (c.is_test_name.ensures.1 good, c.if-not-is_test_name.true))

pub returns-in_default-read_decimal-clause-fault : goal.returns-in_default-read_decimal-clause-fault
returns-in_default-read_decimal-clause-fault c =
    no_budget (line_with c.args.line.now.bytes.now c.args.line.now.is_ended) c.in-Some.words.name.now c.in-Some.words.budget.now c.in-Some.words.input.now c.if-not-line.false c.in-Some.ensures
    (c.is_test_name.ensures.0 c.if-not-is_test_name.false) c.in_default-read_decimal.ensures

pub returns-in_default-2-clause-fault : goal.returns-in_default-2-clause-fault
returns-in_default-2-clause-fault c =
    no_input (line_with c.args.line.now.bytes.now c.args.line.now.is_ended) c.in-Some.words.name.now c.in-Some.words.budget.now c.in-Some.words.input.now c.if-not-line.false c.in-Some.ensures
    (c.is_test_name.ensures.0 c.if-not-is_test_name.false) (c.in-Some-read_decimal.budget, c.in-Some-read_decimal.ensures.0, c.in-Some-read_decimal.ensures.1) (rw c.in_default-2.is at c.in_ok-input.ensures)

pub returns-then-input-gt-MOST_INPUT-clause-fault : goal.returns-then-input-gt-MOST_INPUT-clause-fault
returns-then-input-gt-MOST_INPUT-clause-fault c =
    let is = rw c.in-Some-2.is at c.in_ok-input.ensures in
    let parts = c.new-test.ensures.parts in
    let fits : IsBytes c.in-Some-2.input.items = rw parts at c.new-test.ensures.bytes in
    let long : most_input < length c.in-Some-2.input.items = omega (arith, c.if-input-gt-MOST_INPUT.true, ap length (c.input.ensures ∙ ap (λ (test : TestParts). test.input) parts)) in
    long_input (line_with c.args.line.now.bytes.now c.args.line.now.is_ended) c.in-Some.words.name.now c.in-Some.words.budget.now c.in-Some.words.input.now c.in-Some-2.input.items c.if-not-line.false c.in-Some.ensures
    (c.is_test_name.ensures.0 c.if-not-is_test_name.false) (c.in-Some-read_decimal.budget, c.in-Some-read_decimal.ensures.0, c.in-Some-read_decimal.ensures.1)
    fits is long

pub returns-clause-line : goal.returns-clause-line
returns-clause-line c =
    let is = rw c.in-Some-2.is at c.in_ok-input.ensures in
    rw (c.new-test.ensures.parts, c.in_ok-new.ensures)
    (line_of_test (line_with c.args.line.now.bytes.now c.args.line.now.is_ended) c.in-Some.words.name.now c.in-Some.words.budget.now c.in-Some.words.input.now c.in-Some-read_decimal.budget c.in-Some-2.input.items
    c.in-Some.ensures c.in-Some-read_decimal.ensures.1 is)
