use Rattle.std.proofs.Common.{◌≡◌, ◌<◌, length, arith, subst, refl}
use Rattle.csub_decisions.specs.Checks.{scope_at}
use Rattle.csub_decisions.proofs.ValidArgs.{FitUpTo, AreArgs-split, as_many, FitUpTo-more, FitUpTo-at}
use Rattle.csub_decisions.proofs.calls.are_args.Goals as goal

pub returns-then-params-args : goal.returns-then-params-args
returns-then-params-args c =
    (λ h. cc, λ h. absurd (c.if-params-args.true (as_many (scope_at c.args.site) c.args.site.number c.args.params.now c.args.args.now h)))

pub returns-then-not-is_arg : goal.returns-then-not-is_arg
returns-then-not-is_arg c =
    let split = AreArgs-split (scope_at c.args.site) c.args.site.number c.args.params.now c.args.args.now c.if-params-args.false in (
      λ h. cc,
      λ h. c.if-not-is_arg.ensures.1
          (FitUpTo-at (scope_at c.args.site) c.args.site.number c.args.params.now c.args.args.now c.loop-i.i c.index-params-i.result c.index-args-i.result
          c.loop-i-test.true c.index-params-i.is c.index-args-i.is (split.0 h)),
    )

pub loop-i-preserved : goal.loop-i-preserved
loop-i-preserved c =
    let there : c.loop-i.i < length c.args.args.now = omega (arith, c.loop-i-test.true, c.if-params-args.false) in
    FitUpTo-more (scope_at c.args.site) c.args.site.number c.args.params.now c.args.args.now c.loop-i.i c.index-params-i.result c.index-args-i.result
    c.loop-i-test.true there c.index-params-i.is c.index-args-i.is (c.is_arg.ensures.0 c.if-not-is_arg.false) c.loop-i.invariant

pub returns : goal.returns
returns c =
    let split = AreArgs-split (scope_at c.args.site) c.args.site.number c.args.params.now c.args.args.now c.if-params-args.false in
    let whole : c.loop-i.i ≡ length c.args.params.now = omega (arith, c.loop-i-test.false, c.loop-i.auto.i-end) in
    (λ h. split.1 (subst (FitUpTo (scope_at c.args.site) c.args.site.number c.args.params.now c.args.args.now) whole c.loop-i.invariant), λ h. refl)
