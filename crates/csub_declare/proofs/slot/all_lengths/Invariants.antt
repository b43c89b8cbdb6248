use Rattle.std.proofs.Common.{◌≡◌, ◌≤◌, map, length, drop, option_map}
use Rattle.csub_objects.specs.Meaning.{type_tree}
use Rattle.csub_rules.specs.Declarators.{declared_type, dims_fault}
use Rattle.csub_scopes.specs.Meanings.{scope_of}
use Rattle.csub_tree.specs.Expressions.{expr_tree}
use Rattle.csub_declare.specs.Lengths.{any_bad}
use Rattle.csub_declare.proofs.slot.all_lengths.Given as goal

abbrev pub invariant-loop-left : goal.invariant-loop-left
invariant-loop-left l = record {
  within : l.left ≤ length l.dims;
  ctype : option_map type_tree l.found.ctype ≡ declared_type (scope_of l.scope) (option_map type_tree l.fn.base) (map expr_tree (drop l.left l.dims));
  bad : l.found.bad ≡ any_bad (scope_of l.scope) (map expr_tree (drop l.left l.dims));
  fault : l.found.fault ≡ dims_fault (scope_of l.scope) (map expr_tree (drop l.left l.dims));
}

abbrev pub decreases-loop-left : goal.decreases-loop-left
decreases-loop-left l = l.left
