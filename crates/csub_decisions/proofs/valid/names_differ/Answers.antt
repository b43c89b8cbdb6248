use Rattle.std.proofs.Common.{◌≢◌}
use Rattle.csub_semantics.specs.declared.function.Function.{Function}
use Rattle.csub_validity.proofs.LawsLists.{new_from_pairs}
use Rattle.csub_decisions.proofs.valid.names_differ.Goals as goal

pub returns-then-not-is_new : goal.returns-then-not-is_new
returns-then-not-is_new c =
    (λ h. cc, λ h. c.if-not-is_new.ensures.1 (new_from_pairs (λ (f : Function). f.name) (λ a b. a ≢ b) c.args.functions.now c.loop-i.i c.index-functions-i.result c.bytes.result.now c.loop-i-test.true c.index-functions-i.is c.bytes.ensures h))
