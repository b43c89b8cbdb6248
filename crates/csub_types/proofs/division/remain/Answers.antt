use Rattle.std.proofs.Common.{arith, subst, sym, ap, ◌∙◌, ◌≡◌, ◌<◌, pos, of_z, w64}
use Rattle.std.proofs.lemmas.Int.{quot_is, rem_is}
use Rattle.std.specs.Prelude.{◌≢◌, Ok}
use Rattle.std.specs.Result.{result_and}
use Rattle.std.specs.Int.RustNames.{int_div, int_rem}
use Rattle.csub_types.specs.Settled.{settled}
use Rattle.csub_types.specs.Division.{quotient, DividesTo}
use Rattle.csub_types.proofs.DivisionLemmas.{divides, quotient_is}
use Rattle.csub_types.proofs.ProductLemmas.{quotient_fits, passed_quotient_fits}
use Rattle.csub_types.proofs.division.remain.Goals as goal

pub nonzero_div-a : goal.nonzero_div-a
nonzero_div-a c =
    let some : 0 < of_z w64 c.args.b = omega (arith, c.if-b-eq0.false) in
    (some, passed_quotient_fits c.args.kind c.args.a c.args.b c.requires.promoted c.requires.left c.ranges.a c.ranges.b)

pub nonzero_rem-result : goal.nonzero_rem-result
nonzero_rem-result c =
    let some : 0 < of_z w64 c.args.b = omega (arith, c.if-b-eq0.false) in
    (some, passed_quotient_fits c.args.kind c.args.a c.args.b c.requires.promoted c.requires.left c.ranges.a c.ranges.b)

pub returns-clause-value : goal.returns-clause-value
returns-clause-value c =
    let fits = quotient_fits c.args.kind c.args.a c.args.b c.requires.promoted c.requires.left in
    let not_zero : c.args.b ≢ pos 0 = λ zero. c.if-b-eq0.false (ap (of_z w64) zero) in
    let settled_is = ap (settled c.args.kind) (quot_is w64 c.args.a c.args.b c.ranges.a c.ranges.b fits) in
    let value : c.settle.result ≡ quotient c.args.kind c.args.a c.args.b =
    c.settle.ensures ∙ settled_is ∙ quotient_is c.args.kind c.args.a c.args.b not_zero in
    let quotient_is : quotient c.args.kind c.args.a c.args.b ≡ Ok c.in_ok-settle.field-0 = sym value ∙ c.in_ok-settle.was in
    ap Ok (rem_is w64 c.args.a c.args.b c.ranges.a c.ranges.b) ∙ sym (ap (λ q. result_and q (Ok (int_rem c.args.a c.args.b))) quotient_is)

pub returns-clause-law : goal.returns-clause-law
returns-clause-law c =
    let law = divides c.args.a c.args.b (λ zero. c.if-b-eq0.false (ap (of_z w64) zero)) in
    subst (λ r. DividesTo c.args.a c.args.b (int_div c.args.a c.args.b) r) (sym (rem_is w64 c.args.a c.args.b c.ranges.a c.ranges.b)) law
