use Rattle.std.proofs.Common.{◌∙◌}
use Rattle.csub_semantics.specs.Syntax.{function_tree}
use Rattle.csub_validity.specs.Valid.{labels_of}
use Rattle.csub_decisions.proofs.ValidLabels.{uses_in_function, once_by_room}
use Rattle.csub_decisions.proofs.valid.labels.is_once.Goals as goal

pub returns : goal.returns
returns c =
    let f = c.args.function.now in
    let left = rw (c.deref.ensures.value, c.bytes.ensures) at c.room_after_labels.ensures in
    c.is_some.ensures ∙ once_by_room _ c.args.name.now (labels_of (function_tree f)) _ _ (uses_in_function f c.args.name.now) left
