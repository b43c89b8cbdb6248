use Rattle.std.proofs.Common.{◌≡◌, ◌+◌, ◌++◌, map, drop, length}
use Rattle.csub_tree.specs.Declarations.{init_tree, inits_of}
use Rattle.csub_scopes.specs.Meanings.{scope_of}
use Rattle.csub_semantics.specs.Labels.{init_tree as made_tree}
use Rattle.csub_semantics.specs.Syntax.{call_at}
use Rattle.csub_resolution.specs.Contents.{inits_calls, inits_count}
use Rattle.csub_lines.specs.Numbers.{AllNumbers, value_list}
use Rattle.csub_lines.proofs.init.+lower_init.Given as goal

abbrev pub invariant-lower_entries-loop-entry : goal.invariant-lower_entries-loop-entry
invariant-lower_entries-loop-entry l = record {
  trees : map made_tree l.values.items ++ value_list (scope_of l.known.scope.now) (length l.made.items) (inits_of (map init_tree (drop l.entry-index l.entries)))
      ≡ value_list (scope_of l.known.scope.now) (length l.fn.made.items) (inits_of (map init_tree l.entries));
  calls : map call_at l.made.items ++ inits_calls l.known.definitions.now (scope_of l.known.scope.now) (length l.made.items) (inits_of (map init_tree (drop l.entry-index l.entries)))
      ≡ map call_at l.fn.made.items ++ inits_calls l.known.definitions.now (scope_of l.known.scope.now) (length l.fn.made.items) (inits_of (map init_tree l.entries));
  counts : length l.made.items + inits_count (scope_of l.known.scope.now) (inits_of (map init_tree (drop l.entry-index l.entries)))
      ≡ length l.fn.made.items + inits_count (scope_of l.known.scope.now) (inits_of (map init_tree l.entries));
  numbers : AllNumbers (scope_of l.known.scope.now) (inits_of (map init_tree (drop l.entry-index l.entries)));
}
