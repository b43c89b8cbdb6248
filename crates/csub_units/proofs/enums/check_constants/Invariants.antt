use Rattle.std.proofs.Common.{◌≡◌, pos, map, drop}
use Rattle.csub_scopes.specs.Meanings.{scope_of}
use Rattle.csub_tree.specs.Units.{constant_tree}
use Rattle.csub_rules.specs.Faults.{◌or_earlier◌}
use Rattle.csub_rules.specs.Enums.{constants_fault, past_constants}
use Rattle.csub_units.proofs.enums.check_constants.Given as goal

abbrev pub invariant-loop-c : goal.invariant-loop-c
invariant-loop-c l = record {
  past : past_constants (scope_of l.scope) l.next (map constant_tree (drop l.c-index l.constants))
      ≡ past_constants (scope_of l.fn.scope) (pos 0) (map constant_tree l.constants);
  faults : (l.least or_earlier constants_fault (scope_of l.scope) l.next (map constant_tree (drop l.c-index l.constants)))
      ≡ constants_fault (scope_of l.fn.scope) (pos 0) (map constant_tree l.constants);
}
