use Rattle.std.proofs.Common.{◌≡◌, ℕ, ◌<◌, ◌+◌, ◌*◌, suc, length, map}
use Rattle.csub_lex.specs.declared.token.Mark.TheVariants.{CloseBrace}
use Rattle.csub_tree.specs.Statements.{stmt_tree}
use Rattle.csub_expr.specs.Looks.{begins}
use Rattle.csub_expr.specs.ListDescent.{repeated}
use Rattle.csub_expr.proofs.LawsLists.{with_front}
use Rattle.csub_stmt.specs.StatementDescent.{read_stmt, read_line, switch_line_by}
use Rattle.csub_stmt.proofs.block.+stmt.Given as goal

-- the budget, and then how far down the grammar
abbrev pub decreases-stmt : goal.decreases-stmt
decreases-stmt l = l.budget * 8

abbrev pub decreases-inside : goal.decreases-inside
decreases-inside l = l.budget * 8 + 1

abbrev pub decreases-line : goal.decreases-line
decreases-line l = l.budget * 8 + 1

abbrev pub decreases-lines : goal.decreases-lines
decreases-lines l = l.budget * 8 + 2

abbrev pub decreases-braced : goal.decreases-braced
decreases-braced l = l.budget * 8 + 3

abbrev pub decreases-switch_line : goal.decreases-switch_line
decreases-switch_line l = l.budget * 8 + 2

abbrev pub decreases-switch_lines : goal.decreases-switch_lines
decreases-switch_lines l = l.budget * 8 + 3

abbrev pub decreases-switch : goal.decreases-switch
decreases-switch l = l.budget * 8 + 4

abbrev pub decreases-choice : goal.decreases-choice
decreases-choice l = l.budget * 8 + 2

abbrev pub decreases-while_loop : goal.decreases-while_loop
decreases-while_loop l = l.budget * 8 + 2

abbrev pub decreases-do_loop : goal.decreases-do_loop
decreases-do_loop l = l.budget * 8 + 2

abbrev pub decreases-for_loop : goal.decreases-for_loop
decreases-for_loop l = l.budget * 8 + 2

abbrev pub decreases-plain : goal.decreases-plain
decreases-plain l = l.budget * 8 + 2

abbrev pub invariant-lines-each : goal.invariant-lines-each
invariant-lines-each l = (f : ℕ) × (length l.rest < f) × (repeated (read_line l.budget) (begins CloseBrace) (suc (length l.tokens)) l.tokens ≡ with_front (map stmt_tree l.all.items) (repeated (read_line l.budget) (begins CloseBrace) f l.rest))

abbrev pub decreases-lines-each : goal.decreases-lines-each
decreases-lines-each l = length l.rest

abbrev pub invariant-switch_lines-each : goal.invariant-switch_lines-each
invariant-switch_lines-each l = (f : ℕ) × (length l.rest < f) × (repeated (switch_line_by (read_stmt l.budget) l.budget) (begins CloseBrace) (suc (length l.tokens)) l.tokens ≡ with_front (map stmt_tree l.all.items) (repeated (switch_line_by (read_stmt l.budget) l.budget) (begins CloseBrace) f l.rest))

abbrev pub decreases-switch_lines-each : goal.decreases-switch_lines-each
decreases-switch_lines-each l = length l.rest
