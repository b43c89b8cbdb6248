use Rattle.std.proofs.Common.{◌∙◌, refl}
use Rattle.csub_flat.specs.Scopes.{globals_at, function_at}
use Rattle.csub_flat.proofs.Arguments.{fits_more, paired_more}
use Rattle.csub_flat.proofs.flatten.flatten_args.Goals as goal

pub flatten_arg-requires : goal.flatten_arg-requires
flatten_arg-requires c =
    (fits_more (globals_at c.args.scope) (function_at c.args.scope) c.args.params.now c.loop-param.param-index _ c.param-item.result c.arg-item.result c.loop-param.rest.now c.loop-param-test.true c.param-item.is c.in-len1-up.len_at_least c.arg-item.is refl c.loop-param.invariant.1).0

pub loop-param-preserved : goal.loop-param-preserved
loop-param-preserved c =
    let gs = globals_at c.args.scope in
    let f = function_at c.args.scope in
    let next = paired_more gs f (function_at c.args.callee) c.args.params.now c.push.new.self.items c.loop-param.made.items c.in_ok-flatten_arg.field-0 c.loop-param.param-index _ c.param-item.result c.arg-item.result c.loop-param.rest.now c.loop-param-test.true c.param-item.is c.in-len1-up.len_at_least c.arg-item.is refl c.in_ok-flatten_arg.ensures c.in_ok-push.ensures.items in
    let fits = fits_more gs f c.args.params.now c.loop-param.param-index _ c.param-item.result c.arg-item.result c.loop-param.rest.now c.loop-param-test.true c.param-item.is c.in-len1-up.len_at_least c.arg-item.is refl c.loop-param.invariant.1 in
    (next ∙ c.loop-param.invariant.0, fits.1)
