use Rattle.std.proofs.Common.{◌≡◌, ◌++◌, map, drop}
use Rattle.csub_objects.specs.Meaning.{type_tree}
use Rattle.csub_tree.specs.Declarations.{param_tree}
use Rattle.csub_rules.specs.Faults.{◌or_earlier◌}
use Rattle.csub_bodies.specs.Views.{here_of}
use Rattle.csub_rules.specs.Heads.{param_types, params_fault, past_params}
use Rattle.csub_units.proofs.params.check_params.Given as goal

abbrev pub invariant-loop-p : goal.invariant-loop-p
invariant-loop-p l = record {
  past : past_params (here_of l.here) (map param_tree (drop l.p-index l.params)) ≡ past_params (here_of l.fn.here) (map param_tree l.params);
  types : map type_tree l.types.items ++ param_types (here_of l.here) (map param_tree (drop l.p-index l.params))
      ≡ param_types (here_of l.fn.here) (map param_tree l.params);
  faults : (l.least or_earlier params_fault (here_of l.here) (map param_tree (drop l.p-index l.params)))
      ≡ params_fault (here_of l.fn.here) (map param_tree l.params);
}
