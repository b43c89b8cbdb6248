use Rattle.csub_decisions.specs.Checks.{scope_at}
use Rattle.csub_decisions.proofs.ValidArgs.{FitUpTo}
use Rattle.csub_decisions.proofs.calls.are_args.Given as goal

abbrev pub invariant-loop-i : goal.invariant-loop-i
invariant-loop-i l = FitUpTo (scope_at l.site) l.site.number l.params l.args l.i
