use Rattle.std.proofs.Common.{ap, ◌∙◌, of_z, to_z, w64, ◌*ℤ◌}
use Rattle.std.proofs.lemmas.Int.{to_z-of_z}
use Rattle.std.specs.Int.RustNames.{FitsSigned}
use Rattle.csub_types.specs.Shifts.{power}
use Rattle.csub_types.proofs.ProductLemmas.{passed_product_fits, scaled_fits}
use Rattle.csub_types.proofs.shift.scale.Goals as goal

pub overflow_mul-result : goal.overflow_mul-result
overflow_mul-result c =
    let power_fits : FitsSigned w64 c.power.result = record { sfits = c.power.type_inv } in
    let fits = scaled_fits c.args.a c.power.result c.requires.number c.power.ensures.least c.power.ensures.most in
    passed_product_fits c.args.a c.power.result c.ranges.a power_fits fits

pub returns : goal.returns
returns c =
    let power_fits : FitsSigned w64 c.power.result = record { sfits = c.power.type_inv } in
    let a_is = to_z-of_z w64 c.args.a c.ranges.a in
    let power_is = to_z-of_z w64 c.power.result power_fits ∙ c.power.ensures.value ∙ ap power (to_z-of_z w64 c.args.count c.ranges.count) in
    to_z-of_z w64 _ (overflow_mul-result c) ∙ ap (λ a. a *ℤ to_z w64 (of_z w64 c.power.result)) a_is ∙ ap (λ p. c.args.a *ℤ p) power_is
