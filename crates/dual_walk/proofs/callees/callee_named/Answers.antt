use Rattle.std.proofs.Common.{◌≡◌, Some, option_map, ap, ◌∙◌}
use Rattle.csub_semantics.specs.Syntax.{FunctionTree}
use Rattle.csub_semantics.specs.Numbers.{name_at}
use Rattle.dual_walk.proofs.LawsNumbers.{defined_name}
use Rattle.dual_walk.proofs.callees.callee_named.Goals as goal

pub returns-clause-numbers : goal.returns-clause-numbers
returns-clause-numbers c P P' ok ok' d d' = record {
  function = old_name;
  entries = record { old = c.start_of.ensures.start P c.args.name.now ok old_name; new = c.start_of-2.ensures.start P' c.args.name.now ok' new_name };
  exits = record { old = c.exit_of.ensures.exit P c.args.name.now ok old_name; new = c.exit_of-2.ensures.exit P' c.args.name.now ok' new_name };
}
  where
    old_name : name_at P c.in_ok-function.function ≡ Some c.args.name.now
    old_name = c.in_ok-function.ensures.found P ok ∙ ap (option_map (λ (f : FunctionTree). f.name)) d.is ∙ ap Some (defined_name P c.args.name.now d)

    new_name : name_at P' c.in_ok-other.other ≡ Some c.args.name.now
    new_name = c.in_ok-other.ensures.found P' ok' ∙ ap (option_map (λ (f : FunctionTree). f.name)) d'.is ∙ ap Some (defined_name P' c.args.name.now d')
