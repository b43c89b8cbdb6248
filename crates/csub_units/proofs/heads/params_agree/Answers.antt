use Rattle.std.proofs.Common.{arith}
use Rattle.csub_scopes.specs.Meanings.{scope_of}
use Rattle.csub_units.proofs.TypesAgree.{other_lengths}
use Rattle.csub_units.proofs.heads.params_agree.Goals as goal

pub returns-then-before-params : goal.returns-then-before-params
returns-then-before-params c =
    other_lengths (scope_of c.args.scope.now) c.args.before.now c.args.params.now (λ e. let other = c.if-before-params.true in omega arith)
