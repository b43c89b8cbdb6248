use Rattle.std.proofs.Common.{◌≡◌, ℕ, ◌+◌, ◌*◌, ◌<◌, suc, length, map}
use Rattle.csub_lex.specs.declared.token.Mark.TheVariants.{CloseBrace}
use Rattle.csub_tree.specs.Declarations.{init_tree}
use Rattle.csub_expr.specs.Looks.{begins}
use Rattle.csub_expr.specs.ListDescent.{separated}
use Rattle.csub_expr.specs.InitDescent.{read_init}
use Rattle.csub_expr.proofs.LawsLists.{with_front}
use Rattle.csub_expr.proofs.initialiser.+init.Given as goal

abbrev pub decreases-init : goal.decreases-init
decreases-init l = l.budget * 4

abbrev pub decreases-inits : goal.decreases-inits
decreases-inits l = l.budget * 4 + 1

abbrev pub decreases-listed : goal.decreases-listed
decreases-listed l = l.budget * 4 + 2

abbrev pub invariant-inits-each : goal.invariant-inits-each
invariant-inits-each l = (f : ℕ) × (length l.rest < f) × (separated (read_init l.budget) (begins CloseBrace) (suc (length l.tokens)) l.tokens ≡ with_front (map init_tree l.all.items) (separated (read_init l.budget) (begins CloseBrace) f l.rest))

abbrev pub decreases-inits-each : goal.decreases-inits-each
decreases-inits-each l = length l.rest
