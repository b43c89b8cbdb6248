use Rattle.std.proofs.Common.{◌≡◌, ℕ, ◌<◌, suc, length, map}
use Rattle.csub_expr.specs.ListDescent.{repeated}
use Rattle.csub_expr.proofs.LawsLists.{with_front}
use Rattle.csub_parse.specs.UnitDescent.{at_end, read_item}
use Rattle.csub_tree.specs.Units.{item_tree}
use Rattle.csub_parse.proofs.unit.items.Given as goal

abbrev pub invariant-each : goal.invariant-each
invariant-each l = (f : ℕ) × (length l.rest < f) × (repeated (read_item l.budget) at_end (suc (length l.tokens)) l.tokens ≡ with_front (map item_tree l.all.items) (repeated (read_item l.budget) at_end f l.rest))

abbrev pub decreases-each : goal.decreases-each
decreases-each l = length l.rest
