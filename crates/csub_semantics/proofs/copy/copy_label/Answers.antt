use Rattle.std.proofs.Common.{◌∙◌, ap, ap₂, sym}
use Rattle.csub_objects.specs.Meaning.{type_tree}
use Rattle.csub_semantics.specs.Trees.{owner_tree}
use Rattle.csub_semantics.specs.Labels.{init_tree, label_tree, evaluates, initialises, branches, switches, halts, calls}
use Rattle.csub_semantics.proofs.copy.copy_label.Goals as goal

pub returns-in_ok-copy_expr-in-Eval : goal.returns-in_ok-copy_expr-in-Eval
returns-in_ok-copy_expr-in-Eval c =
    ap evaluates c.in_ok-copy_expr-in-Eval.ensures ∙ sym (ap label_tree c.in-Eval.is)

pub returns-in_ok-copy_expr-in-Branch : goal.returns-in_ok-copy_expr-in-Branch
returns-in_ok-copy_expr-in-Branch c =
    ap branches c.in_ok-copy_expr-in-Branch.ensures ∙ sym (ap label_tree c.in-Branch.is)

pub returns-in_ok-copy_expr-in-Switch : goal.returns-in_ok-copy_expr-in-Switch
returns-in_ok-copy_expr-in-Switch c =
    ap switches c.in_ok-copy_expr-in-Switch.ensures ∙ sym (ap label_tree c.in-Switch.is)

pub returns-in_ok-copy_expr-in-Halt : goal.returns-in_ok-copy_expr-in-Halt
returns-in_ok-copy_expr-in-Halt c =
    ap halts c.in_ok-copy_expr-in-Halt.ensures ∙ sym (ap label_tree c.in-Halt.is)

pub returns-in_ok-copy_init-in-Init : goal.returns-in_ok-copy_init-in-Init
returns-in_ok-copy_init-in-Init c =
    let new = init_tree c.in_ok-copy_init-in-Init.field-0 in
    ap₂ (λ o ct. initialises o ct new) c.in_ok-object-in-Init.ensures c.in_ok-declared-in-Init.ensures.value
    ∙ ap (λ i. initialises (owner_tree c.in-Init.owner) (type_tree c.in-Init.ctype) i) c.in_ok-copy_init-in-Init.ensures ∙ sym (ap label_tree c.in-Init.is)

pub returns-in_ok-copy_call-in-Call : goal.returns-in_ok-copy_call-in-Call
returns-in_ok-copy_call-in-Call c =
    ap calls c.in_ok-copy_call-in-Call.ensures ∙ sym (ap label_tree c.in-Call.is)
