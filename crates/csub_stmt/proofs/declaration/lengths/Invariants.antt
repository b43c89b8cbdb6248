use Rattle.std.proofs.Common.{◌≡◌, ℕ, ◌<◌, suc, length, map}
use Rattle.csub_expr.specs.ListDescent.{repeated}
use Rattle.csub_expr.proofs.LawsLists.{with_front}
use Rattle.csub_stmt.specs.DeclarationDescent.{length_at, no_length}
use Rattle.csub_tree.specs.Expressions.{expr_tree}
use Rattle.csub_stmt.proofs.declaration.lengths.Given as goal

abbrev pub invariant-each : goal.invariant-each
invariant-each l = (f : ℕ) × (length l.rest < f) × (repeated (length_at l.budget) (no_length l.budget) (suc (length l.tokens)) l.tokens ≡ with_front (map expr_tree l.all.items) (repeated (length_at l.budget) (no_length l.budget) f l.rest))

abbrev pub decreases-each : goal.decreases-each
decreases-each l = length l.rest
