use Rattle.std.proofs.Common.{◌≡◌, map, drop, length}
use Rattle.csub_objects.specs.Meaning.{type_tree}
use Rattle.csub_scopes.specs.Meanings.{scope_of}
use Rattle.csub_tree.specs.Declarations.{param_tree}
use Rattle.csub_rules.specs.Heads.{params_agree}
use Rattle.csub_units.proofs.heads.params_agree.Given as goal

abbrev pub invariant-loop-i : goal.invariant-loop-i
invariant-loop-i l = record {
  lengths : length l.before ≡ length l.params;
  agree : l.agree ≡ params_agree (scope_of l.scope) (map type_tree (drop l.i l.before)) (map param_tree (drop l.i l.params));
}
