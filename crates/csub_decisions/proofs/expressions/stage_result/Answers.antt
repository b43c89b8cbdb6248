use Rattle.std.proofs.Common.{◌≡◌, ◌<◌, ◌∙◌, suc, length, arith, ap, sym}
use Rattle.std.specs.Option.{option_map}
use Rattle.csub_semantics.specs.declared.function.RCall.{RCall}
use Rattle.csub_semantics.specs.Labels.{label_tree}
use Rattle.csub_decisions.proofs.ValidResults.{call_result, own_stage_result, past_result}
use Rattle.csub_decisions.proofs.expressions.stage_result.Goals as goal

pub returns-then-index-calls : goal.returns-then-index-calls
returns-then-index-calls c =
    let part = c.args.part.now in
    let value = c.as_slice-calls.ensures.value in
    let next : c.args.temp ≡ suc c.in_ok-index.index = omega (arith, c.in_ok-index.ensures) in
    sym (ap (λ (x : RCall). x.label.result) c.index-calls-index.is)
    ∙ call_result part.calls.items part.span (option_map label_tree part.main) c.args.temp c.in_ok-index.index c.index-calls-index.result next (rw value at c.if-index-calls.true) (rw value at c.index-calls-index.is)

pub returns-then-index-calls-2 : goal.returns-then-index-calls-2
returns-then-index-calls-2 c =
    let part = c.args.part.now in
    let last = rw c.as_slice-calls.ensures.value at c.if-index-calls-2.true in
    let next : c.args.temp ≡ suc c.in_ok-index.index = omega (arith, c.in_ok-index.ensures) in
    c.own_result.ensures ∙ own_stage_result part.calls.items part.span (option_map label_tree part.main) c.args.temp (next ∙ ap suc last)

pub returns-else-index-calls-2 : goal.returns-else-index-calls-2
returns-else-index-calls-2 c =
    let part = c.args.part.now in
    let value = c.as_slice-calls.ensures.value in
    let next : c.args.temp ≡ suc c.in_ok-index.index = omega (arith, c.in_ok-index.ensures) in
    let behind : length part.calls.items < c.in_ok-index.index = omega (arith, rw value at c.if-index-calls.false, rw value at c.if-index-calls-2.false) in
    past_result part.calls.items part.span (option_map label_tree part.main) c.args.temp c.in_ok-index.index next behind
