use Rattle.std.proofs.Common.{◌∙◌, sym}
use Rattle.csub_scopes.specs.Meanings.{scope_of}
use Rattle.csub_tree.specs.Expressions.{expr_tree}
use Rattle.csub_lines.proofs.Effects.{gives_number}
use Rattle.csub_lines.proofs.part.effect_part.Goals as goal

pub value_part-requires-clause-number : goal.value_part-requires-clause-number
value_part-requires-clause-number c =
    gives_number (scope_of c.args.known.scope.now) (expr_tree c.args.e.now) c.requires.fine c.requires.effect
    (sym c.is_own_call.ensures ∙ c.if-is_own_call.false)
