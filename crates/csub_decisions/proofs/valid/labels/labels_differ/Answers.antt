use Rattle.std.proofs.Common.{◌∙◌, sym}
use Rattle.csub_semantics.specs.Syntax.{function_tree}
use Rattle.csub_validity.specs.Valid.{labels_of}
use Rattle.csub_decisions.specs.ProgramChecks.{is_once}
use Rattle.csub_decisions.proofs.ValidLabels.{all_in_function, once_is_pairs}
use Rattle.csub_decisions.proofs.valid.labels.labels_differ.Goals as goal

pub returns : goal.returns
returns c =
    let labels = labels_of (function_tree c.args.function.now) in
    let all = (rw c.deref.ensures.value at c.are_once.ensures) ∙ sym (all_in_function c.args.function.now (is_once labels)) in
    rw all (once_is_pairs labels)
