use Rattle.std.proofs.Common.{◌≡◌, ◌∙◌, of_z, rules, to_z, w64, ℤ}
use Rattle.csub_scopes.specs.Meanings.{scope_of}
use Rattle.csub_scopes.specs.Scopes.{Scope}
use Rattle.csub_units.proofs.ConstantLoop.{constants_past_more, constants_fault_more}
use Rattle.csub_units.proofs.enums.check_constants.Goals as goal

pub loop-c-preserved : goal.loop-c-preserved
loop-c-preserved c =
    let next : ℤ = to_z w64 c.loop-c.next-bits in
    let after : ℤ = to_z w64 (of_z w64 c.in_ok-found.found.next) in
    let word : to_z w64 (of_z w64 c.in_ok-found.found.next) ≡ c.in_ok-found.found.next = search rules in
    let old : Scope = scope_of c.loop-c.scope in
    let new : Scope = scope_of c.check_constant.new.scope in
    record {
      past = constants_past_more old new next after c.args.constants.now c.loop-c.c-index c.c-item.result c.loop-c-test.true c.c-item.is
          c.in_ok-found.ensures.past (word ∙ c.in_ok-found.ensures.next) ∙ c.loop-c.invariant.past;
      faults = constants_fault_more old new next after c.args.constants.now c.loop-c.c-index c.c-item.result c.loop-c-test.true c.c-item.is
          c.in_ok-found.ensures.past (word ∙ c.in_ok-found.ensures.next) c.loop-c.least c.in_ok-found.found.fault c.earlier-least.result
          c.in_ok-found.ensures.fault c.earlier-least.ensures ∙ c.loop-c.invariant.faults;
    }
