use Rattle.std.proofs.Common.{◌≡◌, ℕ, ◌<◌, length, map}
use Rattle.csub_expr.specs.ListDescent.{repeated}
use Rattle.csub_expr.proofs.LawsLists.{with_front}
use Rattle.csub_lex.specs.declared.token.Mark.TheVariants.{CloseBrace}
use Rattle.csub_expr.specs.Looks.{begins}
use Rattle.csub_stmt.specs.DeclarationDescent.{field_at}
use Rattle.csub_parse.specs.UnitDescent.{fields_after}
use Rattle.csub_tree.specs.Declarations.{declare_tree}
use Rattle.csub_parse.proofs.item.fields.Given as goal

abbrev pub invariant-each : goal.invariant-each
invariant-each l = (f : ℕ) × (length l.rest < f) × (fields_after l.budget (declare_tree l.fn.first) l.tokens ≡ with_front (map declare_tree l.all.items) (repeated (field_at l.budget) (begins CloseBrace) f l.rest))

abbrev pub decreases-each : goal.decreases-each
decreases-each l = length l.rest
