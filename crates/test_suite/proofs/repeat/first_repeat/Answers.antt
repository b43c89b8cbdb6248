use Rattle.std.proofs.Common.{◌∙◌, refl}
use Rattle.std.specs.List.{list_any}
use Rattle.std.specs.Str.{bytes_eq}
use Rattle.test_suite.specs.Suites.{names_of}
use Rattle.test_suite.proofs.NameLemmas.{name_here, repeats, more_names, not_new, was_new, grown_by}
use Rattle.test_suite.proofs.repeat.first_repeat.Goals as goal

pub returns-then-not-branch : goal.returns-then-not-branch
returns-then-not-branch c =
    let same = c.bytes.ensures ∙ c.name.ensures in
    let here = name_here c.args.tests.now c.loop-place.place c.index-tests-place.result c.bytes.result.now c.loop-place-test.true c.index-tests-place.is same in
    let has = not_new c.in_ok-insert.field-0 (list_any (λ key. bytes_eq c.bytes.result.now key.now) c.loop-place.names.keys) c.in_ok-insert.ensures.added c.if-not-branch.true in
    repeats (λ key. key.now) c.loop-place.names.keys (names_of c.args.tests.now) c.loop-place.place c.bytes.result.now c.loop-place.invariant.names c.loop-place.invariant.apart here has

pub loop-place-preserved : goal.loop-place-preserved
loop-place-preserved c =
    let same = c.bytes.ensures ∙ c.name.ensures in
    let here = name_here c.args.tests.now c.loop-place.place c.index-tests-place.result c.bytes.result.now c.loop-place-test.true c.index-tests-place.is same in
    let lacks = was_new c.in_ok-insert.field-0 (list_any (λ key. bytes_eq c.bytes.result.now key.now) c.loop-place.names.keys) c.in_ok-insert.ensures.added c.if-not-branch.false in
    let grown = grown_by (list_any (λ key. bytes_eq c.bytes.result.now key.now) c.loop-place.names.keys) c.loop-place.names.keys c.insert.new.self.keys c.bytes.result c.in_ok-insert.ensures.keys lacks in
    let more = more_names (λ key. key.now) c.loop-place.names.keys c.insert.new.self.keys c.bytes.result (names_of c.args.tests.now) c.loop-place.place c.bytes.result.now c.loop-place.invariant.names c.loop-place.invariant.apart here refl lacks grown in
    record { names = more.0; apart = more.1 }
