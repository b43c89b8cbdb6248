use Rattle.std.proofs.Common.{◌≡◌, ℕ, ◌<◌, length, map}
use Rattle.csub_expr.specs.Looks.{rest}
use Rattle.csub_expr.proofs.LawsLists.{with_front}
use Rattle.csub_stmt.specs.DeclarationDescent.{var_at, following}
use Rattle.csub_tree.specs.Declarations.{declarator_tree}
use Rattle.csub_stmt.proofs.LawsLoops.{others}
use Rattle.csub_stmt.proofs.declaration.vars.Given as goal

abbrev pub invariant-each : goal.invariant-each
invariant-each l = (f : ℕ) × (length (rest l.rest) < f) × (following (var_at l.budget) (declarator_tree l.fn.first) l.tokens ≡ with_front (map declarator_tree l.all.items) (others (var_at l.budget) f l.rest))

abbrev pub decreases-each : goal.decreases-each
decreases-each l = length l.rest
