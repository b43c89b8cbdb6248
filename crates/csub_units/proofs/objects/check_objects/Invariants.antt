use Rattle.std.proofs.Common.{◌≡◌, map, drop, option_map}
use Rattle.csub_objects.specs.Meaning.{type_tree}
use Rattle.csub_scopes.specs.Meanings.{scope_of}
use Rattle.csub_tree.specs.Declarations.{declarator_tree}
use Rattle.csub_rules.specs.Faults.{◌or_earlier◌}
use Rattle.csub_rules.specs.Objects.{past_objects, objects_fault}
use Rattle.csub_units.proofs.objects.check_objects.Given as goal

abbrev pub invariant-loop-d : goal.invariant-loop-d
invariant-loop-d l = record {
  past : past_objects (scope_of l.scope) (option_map type_tree l.base) (map declarator_tree (drop l.d-index l.vars))
      ≡ past_objects (scope_of l.fn.scope) (option_map type_tree l.base) (map declarator_tree l.vars);
  faults : (l.least or_earlier objects_fault (scope_of l.scope) (option_map type_tree l.base) (map declarator_tree (drop l.d-index l.vars)))
      ≡ objects_fault (scope_of l.fn.scope) (option_map type_tree l.base) (map declarator_tree l.vars);
}
