use Rattle.std.proofs.Common.{◌≡◌, ℕ, ◌<◌, suc, length, map}
use Rattle.csub_expr.specs.Looks.{begins}
use Rattle.csub_expr.specs.ListDescent.{separated}
use Rattle.csub_expr.proofs.LawsLists.{with_front}
use Rattle.csub_parse.specs.UnitDescent.{constant_at}
use Rattle.csub_tree.specs.Units.{constant_tree}
use Rattle.csub_lex.specs.declared.token.Mark.TheVariants.{CloseBrace}
use Rattle.csub_parse.proofs.item.constants.Given as goal

abbrev pub invariant-each : goal.invariant-each
invariant-each l = (f : ℕ) × (length l.rest < f) × (separated (constant_at l.budget) (begins CloseBrace) (suc (length l.tokens)) l.tokens ≡ with_front (map constant_tree l.all.items) (separated (constant_at l.budget) (begins CloseBrace) f l.rest))

abbrev pub decreases-each : goal.decreases-each
decreases-each l = length l.rest
