use Rattle.std.proofs.Common.{◌≡◌, map, drop}
use Rattle.csub_tree.specs.Declarations.{declarator_tree}
use Rattle.csub_rules.specs.Faults.{◌or_earlier◌}
use Rattle.csub_rules.specs.Labels.{past_names, twice_fault}
use Rattle.csub_units.proofs.structs.twice_in_line.Given as goal

abbrev pub invariant-loop-d : goal.invariant-loop-d
invariant-loop-d l = record {
  past : past_names l.seen (map (λ v. v.name) (map declarator_tree (drop l.d-index l.vars)))
      ≡ past_names l.fn.seen (map (λ v. v.name) (map declarator_tree l.vars));
  faults : (l.least or_earlier twice_fault l.seen (map (λ v. v.name) (map declarator_tree (drop l.d-index l.vars))))
      ≡ twice_fault l.fn.seen (map (λ v. v.name) (map declarator_tree l.vars));
}
