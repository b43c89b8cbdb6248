use Rattle.csub_scopes.specs.Meanings.{scope_of}
use Rattle.csub_rules.specs.Callees.{callee_of}
use Rattle.csub_lower.proofs.Fits.{output_fits}
use Rattle.csub_lower.proofs.argument.output_arg.Goals as goal

pub returns-clause-numbers : goal.returns-clause-numbers
returns-clause-numbers c =
    (output_fits (scope_of c.args.scope.now) (callee_of (scope_of c.args.scope.now) c.args.f.now.text) c.args.args.now c.requires.callee c.requires.fine).numbers

pub returns-clause-one : goal.returns-clause-one
returns-clause-one c =
    (output_fits (scope_of c.args.scope.now) (callee_of (scope_of c.args.scope.now) c.args.f.now.text) c.args.args.now c.requires.callee c.requires.fine).one
