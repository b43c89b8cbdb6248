use Rattle.std.specs.Option.{option_map}
use Rattle.csub_semantics.specs.Labels.{label_tree}
use Rattle.csub_semantics.specs.Syntax.{part_tree, function_tree}
use Rattle.csub_validity.specs.Valid.{scope_of}
use Rattle.csub_decisions.specs.Checks.{tree_of}
use Rattle.csub_decisions.proofs.ValidParts.{AreStages-split}
use Rattle.csub_decisions.proofs.valid.statements.is_part.Goals as goal

pub returns-then-are_calls : goal.returns-then-are_calls
returns-then-are_calls c =
    let part = c.args.part.now in
    let f = function_tree c.args.function.now in
    let split = AreStages-split (tree_of c.args.program) f (scope_of (tree_of c.args.program) f (part_tree part)) c.args.role part.calls.items part.span (option_map label_tree part.main) in
    (λ h. split.1 (c.are_calls.ensures.0 c.if-are_calls.true, c.is_end.ensures.0 h), λ h. c.is_end.ensures.1 (split.0 h).1)

pub returns-else-are_calls : goal.returns-else-are_calls
returns-else-are_calls c =
    let part = c.args.part.now in
    let f = function_tree c.args.function.now in
    let split = AreStages-split (tree_of c.args.program) f (scope_of (tree_of c.args.program) f (part_tree part)) c.args.role part.calls.items part.span (option_map label_tree part.main) in
    (λ h. cc, λ h. c.are_calls.ensures.1 (split.0 h).0)
