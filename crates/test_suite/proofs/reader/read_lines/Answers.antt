use Rattle.std.proofs.Common.{◌≡◌, ◌∙◌, length, true, sym, ap, arith}
use Rattle.std.specs.Result.{is_ok}
use Rattle.std.proofs.lemmas.List.Elements.{All-push}
use Rattle.hex.specs.Hex.{IsBytes}
use Rattle.test_suite.specs.Tests.{TestParts, IsWithin}
use Rattle.test_suite.proofs.SuiteLemmas.{count_in, fault_of_line, more_test}
use Rattle.test_suite.proofs.reader.read_lines.Goals as goal

pub loop-line-preserved : goal.loop-line-preserved
loop-line-preserved c =
    let ok : is_ok c.push.result ≡ true = sym c.map_err.ensures.variant ∙ ap is_ok c.in_ok-map_err-in-Ok-read_test.was in
    let pushed = rw ok at c.push.ensures.items in
    let cut = rw c.in-Ok-read_test.ensures.ended at c.in-Some.ensures.cut in
    let whole = more_test c.args.bytes.now c.loop-line.rest.now c.in-Some.line.bytes.now c.in-Some.line.rest.now c.loop-line.tests.items c.in-Ok-read_test.test c.loop-line.invariant.text cut c.in-Ok-read_test.ensures.line in
    let Bytes : TestParts → Type 0 = λ test. IsBytes test.input in
    record {
      text = rw pushed whole;
      within = rw pushed (All-push IsWithin c.loop-line.tests.items c.in-Ok-read_test.test c.loop-line.invariant.within c.in-Ok-read_test.ensures.within);
      inputs = rw pushed (All-push Bytes c.loop-line.tests.items c.in-Ok-read_test.test c.loop-line.invariant.inputs c.in-Ok-read_test.ensures.bytes);
    }

pub returns-clause-count : goal.returns-clause-count
returns-clause-count c = count_in c.args.bytes.now c.loop-line.rest.now c.loop-line.tests.items c.loop-line.invariant.text

pub overflow_cast-len : goal.overflow_cast-len
overflow_cast-len c = omega (arith, c.len.ensures, count_in c.args.bytes.now c.loop-line.rest.now c.loop-line.tests.items c.loop-line.invariant.text)

pub overflow_add-len : goal.overflow_add-len
overflow_add-len c = omega (arith, c.len.ensures, count_in c.args.bytes.now c.loop-line.rest.now c.loop-line.tests.items c.loop-line.invariant.text)

pub returns-in-Err-read_test-clause-fault : goal.returns-in-Err-read_test-clause-fault
returns-in-Err-read_test-clause-fault c =
    let count : c.len.result ≡ length c.loop-line.tests.items = omega (arith, c.len.ensures) in
    rw (c.refusal_at.ensures, count)
    (fault_of_line c.args.bytes.now c.loop-line.rest.now c.loop-line.tests.items _ _ c.in-Err-read_test.fault c.loop-line.invariant.text c.loop-line.invariant.within c.loop-line.invariant.inputs c.in-Some.ensures.lines c.in-Err-read_test.ensures.fault)
