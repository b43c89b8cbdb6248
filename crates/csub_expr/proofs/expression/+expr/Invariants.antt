use Rattle.std.proofs.Common.{◌≡◌, ℕ, ◌≤◌, ◌<◌, ◌+◌, ◌-◌, ◌*◌, suc, length, map, Ok}
use Rattle.csub_tree.specs.Expressions.{expr_tree, exprs_of}
use Rattle.csub_tree.specs.Depth.{expr_depth, exprs_depth}
use Rattle.csub_tree.specs.SpellsExpressions.{assignment, binary}
use Rattle.csub_expr.specs.ListDescent.{separated, never}
use Rattle.csub_expr.specs.ExprDescent.{read, more, behind}
use Rattle.csub_expr.proofs.LawsLists.{with_front}
use Rattle.csub_expr.proofs.expression.+expr.Given as goal

-- the budget, and then how far down the grammar
abbrev pub decreases-assign : goal.decreases-assign
decreases-assign l = l.budget * 16 + 8

abbrev pub decreases-conditional : goal.decreases-conditional
decreases-conditional l = l.budget * 16 + 8

abbrev pub decreases-choice : goal.decreases-choice
decreases-choice l = l.budget * 16 + 1

abbrev pub decreases-joined : goal.decreases-joined
decreases-joined l = l.budget * 16 + 6

abbrev pub decreases-run : goal.decreases-run
decreases-run l = l.budget * 16 + 1

abbrev pub decreases-unary : goal.decreases-unary
decreases-unary l = l.budget * 16 + 5

abbrev pub decreases-opened : goal.decreases-opened
decreases-opened l = l.budget * 16 + 4

abbrev pub decreases-word : goal.decreases-word
decreases-word l = l.budget * 16 + 3

abbrev pub decreases-call : goal.decreases-call
decreases-call l = l.budget * 16 + 1

abbrev pub decreases-args : goal.decreases-args
decreases-args l = l.budget * 16 + 9

abbrev pub decreases-tails : goal.decreases-tails
decreases-tails l = l.budget * 16 + 2

abbrev pub decreases-longer : goal.decreases-longer
decreases-longer l = l.budget * 16 + 1

abbrev pub invariant-run-more : goal.invariant-run-more
invariant-run-more l = record {
  is_depth : l.depth ≡ expr_depth (expr_tree l.left);
  fits : l.depth ≤ l.budget;
  goes_on : (f : ℕ) × (l.budget < f + l.depth) × (more (read (l.budget - 1)) (l.budget - 1) l.level l.budget (expr_tree l.fn.first) l.tokens ≡ more (read (l.budget - 1)) (l.budget - 1) l.level f (expr_tree l.left) l.rest);
}

abbrev pub decreases-run-more : goal.decreases-run-more
decreases-run-more l = l.budget - l.depth

abbrev pub invariant-tails-tails : goal.invariant-tails-tails
invariant-tails-tails l = record {
  is_depth : l.depth ≡ expr_depth (expr_tree l.e);
  fits : l.depth ≤ l.budget;
  goes_on : (f : ℕ) × (l.budget < f + l.depth) × (behind (read (l.budget - 1)) (l.budget - 1) l.budget (expr_tree l.fn.first) l.tokens ≡ behind (read (l.budget - 1)) (l.budget - 1) f (expr_tree l.e) l.rest);
}

abbrev pub decreases-tails-tails : goal.decreases-tails-tails
decreases-tails-tails l = l.budget - l.depth

abbrev pub invariant-joined-levels : goal.invariant-joined-levels
invariant-joined-levels l = record {
  is_depth : l.depth ≡ expr_depth (expr_tree l.left);
  fits : l.depth ≤ l.budget;
  so_far : read l.budget (binary l.at) l.tokens ≡ Ok (expr_tree l.left, l.rest);
}

abbrev pub invariant-args-each : goal.invariant-args-each
invariant-args-each l = record {
  is_depth : l.deep ≡ exprs_depth (exprs_of (map expr_tree l.all.items));
  fits : l.deep ≤ l.budget;
  goes_on : (f : ℕ) × (length l.rest < f) × (separated (read l.budget assignment) never (suc (length l.tokens)) l.tokens ≡ with_front (map expr_tree l.all.items) (separated (read l.budget assignment) never f l.rest));
}

abbrev pub decreases-args-each : goal.decreases-args-each
decreases-args-each l = length l.rest
