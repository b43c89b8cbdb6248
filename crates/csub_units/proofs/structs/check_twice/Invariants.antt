use Rattle.std.proofs.Common.{◌≡◌, [], map, drop}
use Rattle.csub_tree.specs.Declarations.{declare_tree}
use Rattle.csub_rules.specs.Faults.{◌or_earlier◌}
use Rattle.csub_rules.specs.Labels.{twice_fault}
use Rattle.csub_rules.specs.Structs.{field_names}
use Rattle.csub_units.proofs.structs.check_twice.Given as goal

abbrev pub invariant-loop-d : goal.invariant-loop-d
invariant-loop-d l =
    (l.least or_earlier twice_fault l.seen (field_names (map declare_tree (drop l.d-index l.ds)))) ≡ twice_fault [] (field_names (map declare_tree l.ds))
