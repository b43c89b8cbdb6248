use Rattle.std.proofs.Common.{refl}
use Rattle.csub_semantics.specs.Syntax.{function_tree}
use Rattle.csub_validity.specs.Valid.{no_loop}
use Rattle.csub_decisions.specs.Checks.{tree_of}
use Rattle.csub_decisions.proofs.ValidStmts.{AreStmts-All}
use Rattle.csub_decisions.proofs.valid.is_function.Goals as goal

pub returns-then-has_labels : goal.returns-then-has_labels
returns-then-has_labels c =
    let body = AreStmts-All (tree_of c.args.program) (function_tree c.args.function.now) no_loop c.args.function.now.body.items in
    let checked = rw c.deref.ensures.value at c.are_stmts.ensures in
    (λ h. (c.if-has_labels.ensures.0 refl, body.1 (checked.0 h)), λ h. checked.1 (body.0 h.1))
