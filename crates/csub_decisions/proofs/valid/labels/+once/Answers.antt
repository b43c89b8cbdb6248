use Rattle.std.proofs.Common.{◌∙◌, sym}
use Rattle.csub_semantics.specs.Syntax.{function_tree}
use Rattle.csub_validity.specs.Valid.{labels_of}
use Rattle.csub_decisions.specs.ProgramChecks.{is_once}
use Rattle.csub_decisions.proofs.ValidLabels.{all_in_Block, all_in_Switch}
use Rattle.csub_decisions.proofs.valid.labels.+once.Goals as goal

pub are_once_in-returns-in-Block : goal.are_once_in-returns-in-Block
are_once_in-returns-in-Block t c =
    let once = is_once (labels_of (function_tree c.args.function.now)) in
    rw c.in-Block.is ((rw c.deref.ensures.value at c.are_once.ensures) ∙ sym (all_in_Block once c.in-Block.stmts))

pub are_once_in-returns-in-Switch : goal.are_once_in-returns-in-Switch
are_once_in-returns-in-Switch t c =
    let once = is_once (labels_of (function_tree c.args.function.now)) in
    rw c.in-Switch.is
    ((rw c.deref-in-Switch.ensures.value at c.are_once-in-Switch.ensures) ∙ sym (all_in_Switch once c.in-Switch.field-0 c.in-Switch.stmts))
