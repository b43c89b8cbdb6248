use Rattle.std.proofs.Common.{◌≡◌, ◌+◌, map, drop, option_map, sum_by}
use Rattle.csub_objects.specs.Meaning.{type_tree}
use Rattle.csub_objects.specs.Types.{cells}
use Rattle.csub_scopes.specs.Meanings.{scope_of}
use Rattle.csub_semantics.specs.Types.{GlobalTree}
use Rattle.csub_tree.specs.Declarations.{declarator_tree}
use Rattle.csub_rules.specs.Objects.{past_objects}
use Rattle.csub_resolution.specs.Programs.{globals_by}
use Rattle.csub_globals.proofs.global.count_objects.Given as goal

abbrev pub invariant-loop-d : goal.invariant-loop-d
invariant-loop-d l = record {
  count : l.all + sum_by (λ (g : GlobalTree). cells g.ctype) (globals_by (scope_of l.scope) (option_map type_tree l.base) (map declarator_tree (drop l.d-index l.vars)))
      ≡ l.count + sum_by (λ (g : GlobalTree). cells g.ctype) (globals_by (scope_of l.fn.scope) (option_map type_tree l.base) (map declarator_tree l.vars));
  past : past_objects (scope_of l.scope) (option_map type_tree l.base) (map declarator_tree (drop l.d-index l.vars))
      ≡ past_objects (scope_of l.fn.scope) (option_map type_tree l.base) (map declarator_tree l.vars);
}
