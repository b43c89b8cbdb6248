use Rattle.std.proofs.Common.{◌≡◌, ◌≢◌, ◌∙◌, true, false, sym, refl, rules}
use Rattle.std.proofs.lemmas.Slice.Eq.{bytes_eq-Decides}
use Rattle.std.specs.Str.{bytes_eq}
use Rattle.test_suite.specs.Suites.{first_line}
use Rattle.test_suite.proofs.SuiteLemmas.{missing_first, other_first, unended_first}
use Rattle.test_suite.proofs.reader.read_first_line.Goals as goal

pub returns-in_default-clause-fault : goal.returns-in_default-clause-fault
returns-in_default-clause-fault c = missing_first c.args.bytes.now (c.in_default.ensures.none.0 refl)

pub returns-then-ne-clause-fault : goal.returns-then-ne-clause-fault
returns-then-ne-clause-fault c =
    let unlike : bytes_eq c.in-Some.line.bytes.now c.as_slice.result.now ≡ false = search rules in
    let other : c.in-Some.line.bytes.now ≢ first_line = λ is. cc ((bytes_eq-Decides c.in-Some.line.bytes.now c.as_slice.result.now).1 (is ∙ sym c.as_slice.ensures), unlike) in
    other_first c.args.bytes.now _ _ c.in-Some.ensures.lines other

pub returns-then-not-line-clause-fault : goal.returns-then-not-line-clause-fault
returns-then-not-line-clause-fault c =
    let same : bytes_eq c.in-Some.line.bytes.now c.as_slice.result.now ≡ true = search rules in
    let is = (bytes_eq-Decides c.in-Some.line.bytes.now c.as_slice.result.now).0 same ∙ c.as_slice.ensures in
    unended_first c.args.bytes.now _ _ c.in-Some.ensures.lines is c.if-not-line.true
