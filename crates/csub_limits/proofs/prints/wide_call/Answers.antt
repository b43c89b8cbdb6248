use Rattle.std.proofs.Common.{arith, sym, ◌∙◌}
use Rattle.csub_validity.specs.Valid.{most_values}
use Rattle.csub_limits.proofs.Calls.{wide_printf, narrow_printf, no_printf}
use Rattle.csub_limits.proofs.prints.wide_call.Goals.{else-is_printf-via-then-is_printf+else-args, else-is_printf-via-else-is_printf}
use Rattle.csub_limits.proofs.prints.wide_call.Goals as goal

pub returns-then-args : goal.returns-then-args
returns-then-args c = wide_printf most_values c.args.f.now.text c.args.args.now (sym c.is_printf.ensures ∙ c.if-is_printf.true) (omega (arith, c.if-args.true))

pub returns : goal.returns
returns c = elim c.else-is_printf.branch [
  | else-is_printf-via-then-is_printf+else-args w ↦ narrow_printf most_values c.args.f.now.text c.args.args.now (omega (arith, w.if-args.false))
  | else-is_printf-via-else-is_printf w ↦ no_printf most_values c.args.f.now.text c.args.args.now (sym c.is_printf.ensures ∙ w.if-is_printf.false)
]
