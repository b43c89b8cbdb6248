use Rattle.std.proofs.Common.{◌≡◌, map, drop}
use Rattle.csub_scopes.specs.Meanings.{scope_of}
use Rattle.csub_tree.specs.Declarations.{declare_tree}
use Rattle.csub_rules.specs.Faults.{◌or_earlier◌}
use Rattle.csub_units.specs.Gathered.{behind, gathered}
use Rattle.csub_rules.specs.Structs.{fields_fault, members}
use Rattle.csub_units.proofs.structs.check_fields.Given as goal

abbrev pub invariant-loop-d : goal.invariant-loop-d
invariant-loop-d l = record {
  members : behind (gathered l.found.members) (members (scope_of l.scope) (map declare_tree (drop l.d-index l.ds)))
      ≡ members (scope_of l.scope) (map declare_tree l.ds);
  faults : (l.found.fault or_earlier fields_fault (scope_of l.scope) (map declare_tree (drop l.d-index l.ds)))
      ≡ fields_fault (scope_of l.scope) (map declare_tree l.ds);
}
