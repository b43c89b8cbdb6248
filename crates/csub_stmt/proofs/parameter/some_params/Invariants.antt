use Rattle.std.proofs.Common.{◌≡◌, ℕ, ◌<◌, suc, length, map}
use Rattle.csub_expr.specs.ListDescent.{separated, never}
use Rattle.csub_expr.proofs.LawsLists.{with_front}
use Rattle.csub_stmt.specs.DeclarationDescent.{param_at}
use Rattle.csub_tree.specs.Declarations.{param_tree}
use Rattle.csub_stmt.proofs.parameter.some_params.Given as goal

abbrev pub invariant-each : goal.invariant-each
invariant-each l = (f : ℕ) × (length l.rest < f) × (separated (param_at l.budget) never (suc (length l.tokens)) l.tokens ≡ with_front (map param_tree l.all.items) (separated (param_at l.budget) never f l.rest))

abbrev pub decreases-each : goal.decreases-each
decreases-each l = length l.rest
