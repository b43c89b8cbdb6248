use Rattle.std.proofs.Common.{◌≡◌, ◌≤◌, ℕ, List, length, vec_len, refl, sym, subst, rules}
use Rattle.csub_semantics.specs.Syntax.{program_tree}
use Rattle.test_suite.specs.Tests.{TestParts}
use Rattle.test_history.specs.Causes.{HasTextCause}
use Rattle.test_history.specs.HistoryTexts.{history_text}
use Rattle.test_history.specs.declared.error.HistoryTextError.TheVariants.{TooLong}
use Rattle.command_files.specs.Record.{IsHistory, IsSuiteFile}
use Rattle.command_runs.proofs.record.record_text.Goals as goal

pub returns-in-Ok : goal.returns-in-Ok
returns-in-Ok g c =
    let history = c.in_ok-history.history in
    let suite = subst (λ (tests : List TestParts). IsSuiteFile c.args.bytes.now tests) (sym c.deref.ensures.value) c.in_ok-tests.ensures.tests in
    let made = subst (λ (tests : List TestParts). IsHistory c.args.source.now (program_tree c.args.program.now) tests history) c.deref.ensures.value c.in_ok-history.ensures.history in
    let counted : vec_len c.in-Ok.text ≡ length c.in-Ok.text.items = search rules in
    record {
      text =
          record { tests = c.in_ok-tests.tests.items; reads = c.in_ok-tests.ensures.tests; history = history; of = made; is = c.in-Ok.ensures.text; readable = c.in_ok-history.ensures.readable c.args.bytes.now suite };
      short = subst (λ (n : ℕ). n ≤ 134217728) counted c.in-Ok.ensures.short;
    }

pub returns-in-Err-TooLong : goal.returns-in-Err-TooLong
returns-in-Err-TooLong g c =
    let history = c.in_ok-history.history in
    let why : HasTextCause history (TooLong c.in-Err-TooLong.count) = rw c.in-Err-TooLong.field-0-is at c.in-Err-TooLong.ensures.cause in
    let suite = subst (λ (tests : List TestParts). IsSuiteFile c.args.bytes.now tests) (sym c.deref.ensures.value) c.in_ok-tests.ensures.tests in
    let made = subst (λ (tests : List TestParts). IsHistory c.args.source.now (program_tree c.args.program.now) tests history) c.deref.ensures.value c.in_ok-history.ensures.history in (
      refl,
      record {
        bytes = history_text history;
        text = record { tests = c.in_ok-tests.tests.items; reads = c.in_ok-tests.ensures.tests; history = history; of = made; is = refl; readable = c.in_ok-history.ensures.readable c.args.bytes.now suite };
        counted = why.0;
        long = why.1;
      },
    )
