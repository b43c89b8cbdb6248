use Rattle.std.proofs.Common.{List, map, refl}
use Rattle.csub_tree.specs.declared.declaration.Init.{Init as CodeInit}
use Rattle.csub_tree.specs.Declarations.{init_tree, inits_of}
use Rattle.csub_validity.specs.Valid.{most_values}
use Rattle.csub_limits.specs.Limits.{first_above}
use Rattle.csub_limits.specs.Prints.{init_prints, inits_prints}
use Rattle.csub_limits.proofs.Above.{above_append, found_here, none_here}
use Rattle.csub_limits.proofs.prints.+initialiser.Goals as goal

pub wide_in_inits-returns-in-Some : goal.wide_in_inits-returns-in-Some
wide_in_inits-returns-in-Some t c =
    found_here (first_above most_values) (above_append most_values) (λ (xs : List CodeInit). inits_prints (inits_of (map init_tree xs))) (λ (x : CodeInit). init_prints (init_tree x)) (λ x xs. refl)
    c.args.inits.now c.loop-init.init-index c.init-item.result c.wide_in_init.result c.in-Some.values c.loop-init-test.true c.init-item.is c.loop-init.invariant c.wide_in_init.ensures c.in-Some.is

pub wide_in_inits-loop-init-preserved : goal.wide_in_inits-loop-init-preserved
wide_in_inits-loop-init-preserved t c =
    none_here (first_above most_values) (above_append most_values) (λ (xs : List CodeInit). inits_prints (inits_of (map init_tree xs))) (λ (x : CodeInit). init_prints (init_tree x)) (λ x xs. refl)
    c.args.inits.now c.loop-init.init-index c.init-item.result c.wide_in_init.result c.loop-init-test.true c.init-item.is c.loop-init.invariant c.wide_in_init.ensures c.in_default.is
