use Rattle.std.proofs.Common.{arith, subst, sym, ap, ◌∙◌, ◌<◌, IfOk, pos, of_z, w64}
use Rattle.std.proofs.lemmas.Int.{quot_is}
use Rattle.std.specs.Prelude.{◌≢◌}
use Rattle.std.specs.Int.RustNames.{int_rem}
use Rattle.csub_types.specs.Settled.{settled}
use Rattle.csub_types.specs.Division.{DividesTo}
use Rattle.csub_types.proofs.DivisionLemmas.{quotient_is, quotient_divides}
use Rattle.csub_types.proofs.ProductLemmas.{quotient_fits, passed_quotient_fits}
use Rattle.csub_types.proofs.division.divide.Goals as goal

pub nonzero_div-a : goal.nonzero_div-a
nonzero_div-a c =
    let some : 0 < of_z w64 c.args.b = omega (arith, c.if-b-eq0.false) in
    (some, passed_quotient_fits c.args.kind c.args.a c.args.b c.requires.promoted c.requires.left c.ranges.a c.ranges.b)

pub returns-else-b-eq0-clause-value : goal.returns-else-b-eq0-clause-value
returns-else-b-eq0-clause-value c =
    let fits = quotient_fits c.args.kind c.args.a c.args.b c.requires.promoted c.requires.left in
    let not_zero : c.args.b ≢ pos 0 = λ zero. c.if-b-eq0.false (ap (of_z w64) zero) in
    c.settle.ensures
    ∙ ap (settled c.args.kind) (quot_is w64 c.args.a c.args.b c.ranges.a c.ranges.b fits)
    ∙ quotient_is c.args.kind c.args.a c.args.b not_zero

pub returns-else-b-eq0-clause-law : goal.returns-else-b-eq0-clause-law
returns-else-b-eq0-clause-law c =
    let value = returns-else-b-eq0-clause-value c in
    let law = quotient_divides c.args.kind c.args.a c.args.b c.requires.left c.requires.right in
    subst (λ result. IfOk result (λ q. DividesTo c.args.a c.args.b q (int_rem c.args.a c.args.b))) (sym value) law
