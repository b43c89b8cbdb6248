use Rattle.std.proofs.Common.{◌≢◌, ◌∙◌, ◌+◌, length, refl, sym, ap, subst, arith}
use Rattle.std.proofs.lemmas.List.{length-map}
use Rattle.std.proofs.lemmas.Option.{slice_get_within}
use Rattle.std.specs.List.{AllPairs}
use Rattle.test_suite.specs.declared.error.SuiteError.TheVariants.{TooMany, Twice}
use Rattle.test_suite.specs.Causes.{IsFirstRepeat, IsOnlyCause}
use Rattle.test_suite.specs.Tests.{TestParts}
use Rattle.test_suite.specs.Suites.{names_of}
use Rattle.test_suite.proofs.CauseLemmas.{says_same, only_memory, passed_on, apart_no_repeat, only_cause, fault_cause, passed_only, cause_excludes}
use Rattle.test_suite.proofs.reader.read_suite.Goals as goal

pub returns-in_err-tests-clause-back : goal.returns-in_err-tests-clause-back
returns-in_err-tests-clause-back c = λ tests suite says.
    let memory = only_memory c.args.bytes.now tests c.in_err-tests.field-0.0 says c.in_err-tests.ensures.fault in
    passed_on c.from_residual.result _ c.in_err-tests.field-0.0 c.from_residual.ensures.1 memory

pub returns-in_err-tests-clause-exact : goal.returns-in_err-tests-clause-exact
returns-in_err-tests-clause-exact c =
    let cause = fault_cause c.args.bytes.now c.in_err-tests.field-0.0 c.if-bytes-gt-MOST_BYTES.false c.in_err-tests.ensures.fault in
    passed_only c.from_residual.result _ (IsOnlyCause c.args.bytes.now) c.in_err-tests.field-0.0 c.from_residual.ensures.1 (only_cause c.args.bytes.now c.in_err-tests.field-0.0 cause)

pub returns-then-len-gt-MOST_TESTS-clause-exact : goal.returns-then-len-gt-MOST_TESTS-clause-exact
returns-then-len-gt-MOST_TESTS-clause-exact c =
    only_cause c.args.bytes.now (TooMany c.len-then-len-gt-MOST_TESTS.result)
    (c.if-bytes-gt-MOST_BYTES.false, c.in_ok-tests.tests.items, c.in_ok-tests.ensures.text, omega (arith, c.len-then-len-gt-MOST_TESTS.ensures), omega (arith, c.if-len-gt-MOST_TESTS.true, c.len.ensures, c.len-then-len-gt-MOST_TESTS.ensures))

pub returns-then-len-gt-MOST_TESTS-clause-back : goal.returns-then-len-gt-MOST_TESTS-clause-back
returns-then-len-gt-MOST_TESTS-clause-back c = λ tests suite says.
    let same = says_same c.args.bytes.now tests c.in_ok-tests.tests.items says c.in_ok-tests.ensures.text in
    absurd (omega (arith, ap length same, suite.few, c.len.ensures))

pub overflow_cast-result-in-Some : goal.overflow_cast-result-in-Some
overflow_cast-result-in-Some c =
    let repeat = rw c.in-Some.is at c.in_ok-first_repeat.ensures in
    omega (arith, slice_get_within (names_of c.deref.result.now) c.in-Some.place repeat.name repeat.here, length-map c.deref.result.now (λ (test : TestParts). test.name), ap length c.deref.ensures.value, c.in_ok-tests.ensures.count)

pub overflow_add-result : goal.overflow_add-result
overflow_add-result c =
    let repeat = rw c.in-Some.is at c.in_ok-first_repeat.ensures in
    omega (arith, slice_get_within (names_of c.deref.result.now) c.in-Some.place repeat.name repeat.here, length-map c.deref.result.now (λ (test : TestParts). test.name), ap length c.deref.ensures.value, c.in_ok-tests.ensures.count)

pub returns-in-None-clause-back : goal.returns-in-None-clause-back
returns-in-None-clause-back c = λ tests suite says.
    says_same c.args.bytes.now c.in_ok-tests.tests.items tests c.in_ok-tests.ensures.text says

pub returns-in-Some-clause-back : goal.returns-in-Some-clause-back
returns-in-Some-clause-back c = λ tests suite says.
    let same = says_same c.args.bytes.now tests c.in_ok-tests.tests.items says c.in_ok-tests.ensures.text in
    let repeat = rw c.in-Some.is at c.in_ok-first_repeat.ensures in
    let apart = subst (λ names. AllPairs (λ name other. name ≢ other) names) (ap names_of (same ∙ sym c.deref.ensures.value)) suite.apart in
    absurd (apart_no_repeat (names_of c.deref.result.now) c.in-Some.place apart repeat)

pub returns-in-None-clause-exact : goal.returns-in-None-clause-exact
returns-in-None-clause-exact c = λ error cause.
    let none = rw c.in-None.is at c.in_ok-first_repeat.ensures in
    let apart = subst (λ tests. AllPairs (λ name other. name ≢ other) (names_of tests)) c.deref.ensures.value none in
    cause_excludes c.args.bytes.now c.in_ok-tests.tests.items error cause c.in_ok-tests.ensures.text c.if-bytes-gt-MOST_BYTES.false (omega (arith, c.if-len-gt-MOST_TESTS.false, c.len.ensures)) apart

pub returns-in-Some-clause-exact : goal.returns-in-Some-clause-exact
returns-in-Some-clause-exact c =
    let some = rw c.in-Some.is at c.in_ok-first_repeat.ensures in
    let repeat = subst (λ tests. IsFirstRepeat (names_of tests) c.in-Some.place) c.deref.ensures.value some in
    only_cause c.args.bytes.now (Twice (c.in-Some.place + 2))
    (c.if-bytes-gt-MOST_BYTES.false, c.in_ok-tests.tests.items, c.in_ok-tests.ensures.text, omega (arith, c.if-len-gt-MOST_TESTS.false, c.len.ensures), c.in-Some.place, repeat, refl)
