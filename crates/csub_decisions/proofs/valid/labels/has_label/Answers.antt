use Rattle.csub_semantics.specs.Syntax.{function_tree}
use Rattle.csub_validity.specs.Valid.{labels_of}
use Rattle.csub_decisions.proofs.ValidLabels.{uses_in_function, any_by_room, is_none_by_some}
use Rattle.csub_decisions.proofs.valid.labels.has_label.Goals as goal

pub returns : goal.returns
returns c =
    let f = c.args.function.now in
    let left = rw (c.deref.ensures.value, c.bytes.ensures) at c.room_after_labels.ensures in
    let found = any_by_room _ c.args.name.now (labels_of (function_tree f)) _ _ (uses_in_function f c.args.name.now) left in
    is_none_by_some _ _ _ c.is_none.ensures found
