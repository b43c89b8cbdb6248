use Rattle.std.proofs.Common.{List, map, refl, option_map}
use Rattle.csub_tree.specs.declared.declaration.Declarator.{Declarator as CodeDeclarator}
use Rattle.csub_tree.specs.Declarations.{declarator_tree, init_tree}
use Rattle.csub_validity.specs.Valid.{most_values}
use Rattle.csub_limits.specs.Limits.{first_above}
use Rattle.csub_limits.specs.Prints.{var_prints, vars_prints}
use Rattle.csub_limits.proofs.Above.{above_append, found_here, none_here}
use Rattle.csub_limits.proofs.prints.wide_in_vars.Goals as goal

pub returns-in-Some : goal.returns-in-Some
returns-in-Some c =
    found_here (first_above most_values) (above_append most_values) (λ (ds : List CodeDeclarator). vars_prints (map declarator_tree ds)) (λ (d : CodeDeclarator). var_prints (option_map init_tree d.init)) (λ d ds. refl)
    c.args.vars.now c.loop-var.var-index c.var-item.result c.wide_in_var.result c.in-Some.values c.loop-var-test.true c.var-item.is c.loop-var.invariant c.wide_in_var.ensures c.in-Some.is

pub loop-var-preserved : goal.loop-var-preserved
loop-var-preserved c =
    none_here (first_above most_values) (above_append most_values) (λ (ds : List CodeDeclarator). vars_prints (map declarator_tree ds)) (λ (d : CodeDeclarator). var_prints (option_map init_tree d.init)) (λ d ds. refl)
    c.args.vars.now c.loop-var.var-index c.var-item.result c.wide_in_var.result c.loop-var-test.true c.var-item.is c.loop-var.invariant c.wide_in_var.ensures c.in_default.is
