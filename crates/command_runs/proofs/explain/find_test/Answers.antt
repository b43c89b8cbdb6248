use Rattle.std.proofs.Common.{◌≡◌, ◌∙◌, sym, ap, arith}
use Rattle.std.proofs.lemmas.Slice.Eq.{bytes_eq-Decides}
use Rattle.test_suite.specs.Tests.{TestParts}
use Rattle.command_runs.proofs.ExplainLemmas.{found_at, passed_at, none_at, not_both}
use Rattle.command_runs.proofs.explain.find_test.Goals as goal

pub returns-then-eq : goal.returns-then-eq
returns-then-eq c =
    let name = c.bytes.ensures ∙ c.name.ensures ∙ ap (λ (t : TestParts). t.name) c.test.ensures in
    let same : c.bytes.result.now ≡ c.as_bytes.result.now = (bytes_eq-Decides c.bytes.result.now c.as_bytes.result.now).0 (sym c.eq.ensures ∙ c.if-eq.true) in
    found_at c.args.entries.now c.args.test.now c.loop-place.place c.index-entries-place.result (omega arith) c.index-entries-place.is
    (sym name ∙ same ∙ c.as_bytes.ensures.value)

pub loop-place-preserved : goal.loop-place-preserved
loop-place-preserved c =
    let name = c.bytes.ensures ∙ c.name.ensures ∙ ap (λ (t : TestParts). t.name) c.test.ensures in
    passed_at c.args.entries.now c.args.test.now c.loop-place.place c.index-entries-place.result c.loop-place.invariant c.index-entries-place.is
    (λ named. not_both ((bytes_eq-Decides c.bytes.result.now c.as_bytes.result.now).1 (name ∙ named ∙ sym c.as_bytes.ensures.value)) (sym c.eq.ensures ∙ c.if-eq.false))

pub returns : goal.returns
returns c = none_at c.args.entries.now c.args.test.now c.loop-place.place c.loop-place.invariant (omega arith)
