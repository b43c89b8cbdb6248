use Rattle.std.proofs.Common.{map}
use Rattle.csub_objects.specs.Meaning.{type_tree}
use Rattle.csub_scopes.specs.Meanings.{scope_of}
use Rattle.csub_tree.specs.Expressions.{expr_tree, exprs_of}
use Rattle.csub_rules.specs.Callees.{callee_of}
use Rattle.csub_lower.proofs.Fits.{user_fits}
use Rattle.csub_lower.proofs.argument.fitting_args.Goals as goal

pub returns-clause-fine : goal.returns-clause-fine
returns-clause-fine c =
    (user_fits (scope_of c.args.scope.now) (callee_of (scope_of c.args.scope.now) c.args.f.now.text) (map type_tree c.args.signature.now.params.items)
    c.args.signature.now.result (exprs_of (map expr_tree c.args.args.now)) c.requires.callee c.requires.fine).fine

pub returns-clause-taken : goal.returns-clause-taken
returns-clause-taken c =
    rw c.as_slice.ensures.value
    ((user_fits (scope_of c.args.scope.now) (callee_of (scope_of c.args.scope.now) c.args.f.now.text) (map type_tree c.args.signature.now.params.items)
    c.args.signature.now.result (exprs_of (map expr_tree c.args.args.now)) c.requires.callee c.requires.fine).taken)
