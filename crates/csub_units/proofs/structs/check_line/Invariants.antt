use Rattle.std.proofs.Common.{◌≡◌, map, drop, option_map}
use Rattle.csub_objects.specs.Meaning.{type_tree}
use Rattle.csub_scopes.specs.Meanings.{scope_of}
use Rattle.csub_tree.specs.Declarations.{declarator_tree}
use Rattle.csub_rules.specs.Faults.{◌or_earlier◌}
use Rattle.csub_units.specs.Gathered.{behind, gathered, line_members}
use Rattle.csub_rules.specs.Structs.{line_fault}
use Rattle.csub_units.proofs.structs.check_line.Given as goal

abbrev pub invariant-loop-d : goal.invariant-loop-d
invariant-loop-d l = record {
  members : behind (gathered l.found.members) (line_members (scope_of l.scope) (option_map type_tree l.base) (map declarator_tree (drop l.d-index l.vars)))
      ≡ behind (gathered l.fn.before.members) (line_members (scope_of l.scope) (option_map type_tree l.base) (map declarator_tree l.vars));
  faults : (l.found.fault or_earlier line_fault (scope_of l.scope) (option_map type_tree l.base) (map declarator_tree (drop l.d-index l.vars)))
      ≡ (l.fn.before.fault or_earlier line_fault (scope_of l.scope) (option_map type_tree l.base) (map declarator_tree l.vars));
}
