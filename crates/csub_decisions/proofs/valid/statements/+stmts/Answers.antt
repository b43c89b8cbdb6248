use Rattle.csub_semantics.specs.Syntax.{function_tree}
use Rattle.csub_decisions.specs.Checks.{tree_of}
use Rattle.csub_decisions.proofs.ValidStmts.{IsStmt-Block, IsStmt-Switch}
use Rattle.csub_decisions.proofs.valid.statements.+stmts.Goals as goal

pub is_stmt-returns-in-Parts : goal.is_stmt-returns-in-Parts
is_stmt-returns-in-Parts t c = rw c.in-Parts.is (rw c.deref.ensures.value at c.are_parts.ensures)

pub is_stmt-returns-then-has_few_stmts : goal.is_stmt-returns-then-has_few_stmts
is_stmt-returns-then-has_few_stmts t c =
    rw c.in-Block.is
    (let f = IsStmt-Block (tree_of c.args.program) (function_tree c.args.function.now) c.args.targets c.in-Block.stmts in
    let few = rw c.deref-in-Block.ensures.value at c.has_few_stmts.ensures in
    let each = rw (c.deref-then-has_few_stmts.ensures.value, c.further_in-inner.ensures) at c.are_stmts.ensures in
    (λ h. f.1 (few.0 c.if-has_few_stmts.true, each.0 h), λ h. each.1 (f.0 h).1))

pub is_stmt-returns-else-has_few_stmts : goal.is_stmt-returns-else-has_few_stmts
is_stmt-returns-else-has_few_stmts t c =
    rw c.in-Block.is
    (let f = IsStmt-Block (tree_of c.args.program) (function_tree c.args.function.now) c.args.targets c.in-Block.stmts in
    let few = rw c.deref-in-Block.ensures.value at c.has_few_stmts.ensures in
    (λ h. cc, λ h. few.1 (f.0 h).0))

pub is_stmt-returns-then-is_switch : goal.is_stmt-returns-then-is_switch
is_stmt-returns-then-is_switch t c =
    rw c.in-Switch.is
    (let f = IsStmt-Switch (tree_of c.args.program) (function_tree c.args.function.now) c.args.targets c.in-Switch.value c.in-Switch.stmts in
    let head = rw c.deref-in-Switch.ensures.value at c.is_switch.ensures in
    let each = rw (c.deref-then-is_switch.ensures.value, c.in_switch-lines.ensures, c.switch_kind.ensures) at c.are_stmts-then-is_switch.ensures in
    (λ h. f.1 (head.0 c.if-is_switch.true, each.0 h), λ h. each.1 (f.0 h).1))

pub is_stmt-returns-else-is_switch : goal.is_stmt-returns-else-is_switch
is_stmt-returns-else-is_switch t c =
    rw c.in-Switch.is
    (let f = IsStmt-Switch (tree_of c.args.program) (function_tree c.args.function.now) c.args.targets c.in-Switch.value c.in-Switch.stmts in
    let head = rw c.deref-in-Switch.ensures.value at c.is_switch.ensures in
    (λ h. cc, λ h. head.1 (f.0 h).0))
