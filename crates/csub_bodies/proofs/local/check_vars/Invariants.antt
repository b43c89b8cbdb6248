use Rattle.std.proofs.Common.{◌≡◌, map, drop, option_map}
use Rattle.csub_objects.specs.Meaning.{type_tree}
use Rattle.csub_tree.specs.Declarations.{declarator_tree}
use Rattle.csub_rules.specs.Faults.{◌or_earlier◌}
use Rattle.csub_rules.specs.Locals.{past_vars, vars_fault}
use Rattle.csub_bodies.specs.Views.{here_of}
use Rattle.csub_bodies.proofs.local.check_vars.Given as goal

abbrev pub invariant-loop-d : goal.invariant-loop-d
invariant-loop-d l = record {
  past : past_vars (here_of l.here) (option_map type_tree l.base) (map declarator_tree (drop l.d-index l.vars))
      ≡ past_vars (here_of l.fn.here) (option_map type_tree l.base) (map declarator_tree l.vars);
  faults : (l.least or_earlier vars_fault (here_of l.here) (option_map type_tree l.base) (map declarator_tree (drop l.d-index l.vars)))
      ≡ vars_fault (here_of l.fn.here) (option_map type_tree l.base) (map declarator_tree l.vars);
}
