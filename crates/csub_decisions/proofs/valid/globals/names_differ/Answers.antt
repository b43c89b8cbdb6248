use Rattle.std.proofs.Common.{◌≢◌}
use Rattle.csub_semantics.specs.declared.types.GlobalVar.{GlobalVar}
use Rattle.csub_validity.proofs.LawsLists.{new_from_pairs}
use Rattle.csub_decisions.proofs.valid.globals.names_differ.Goals as goal

pub returns-then-not-is_new : goal.returns-then-not-is_new
returns-then-not-is_new c =
    (λ h. cc, λ h. c.if-not-is_new.ensures.1 (new_from_pairs (λ (g : GlobalVar). g.name) (λ a b. a ≢ b) c.args.globals.now c.loop-i.i c.index-globals-i.result c.bytes.result.now c.loop-i-test.true c.index-globals-i.is c.bytes.ensures h))
