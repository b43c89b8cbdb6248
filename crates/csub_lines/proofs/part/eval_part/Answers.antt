use Rattle.std.proofs.Common.{sym}
use Rattle.csub_scopes.specs.Meanings.{scope_of}
use Rattle.csub_tree.specs.Expressions.{expr_tree}
use Rattle.csub_resolution.proofs.LawsExits.{fine_operand, fine_status}
use Rattle.csub_lines.proofs.part.eval_part.Goals as goal

pub effect_part-requires-clause-fine : goal.effect_part-requires-clause-fine
effect_part-requires-clause-fine c =
    fine_operand (scope_of c.args.known.scope.now) (expr_tree c.args.e.now) c.requires.0 (sym c.in-None.ensures)

pub exit_part-requires-clause-fine : goal.exit_part-requires-clause-fine
exit_part-requires-clause-fine c =
    (fine_status (scope_of c.args.known.scope.now) (expr_tree c.args.e.now) (expr_tree c.in-Some.status.now) c.requires.0 (sym c.in-Some.ensures)).fine

pub exit_part-requires-clause-number : goal.exit_part-requires-clause-number
exit_part-requires-clause-number c =
    (fine_status (scope_of c.args.known.scope.now) (expr_tree c.args.e.now) (expr_tree c.in-Some.status.now) c.requires.0 (sym c.in-Some.ensures)).number
