use Rattle.std.proofs.Common.{◌≡◌, ◌&&◌, map, drop}
use Rattle.csub_objects.specs.Meaning.{type_tree}
use Rattle.csub_rules.specs.Faults.{◌or_earlier◌}
use Rattle.csub_rules.specs.Initialisers.{entries_fault, fills}
use Rattle.csub_scopes.specs.Meanings.{scope_of}
use Rattle.csub_tree.specs.Declarations.{init_tree, inits_of}
use Rattle.csub_declare.specs.Depths.{init_size, inits_size}
use Rattle.csub_declare.proofs.init.+check_init.Given as goal

abbrev pub decreases-check_entries : goal.decreases-check_entries
decreases-check_entries l = inits_size (inits_of (map init_tree l.entries.now))

abbrev pub decreases-check_init : goal.decreases-check_init
decreases-check_init l = init_size (init_tree l.init.now)

abbrev pub invariant-check_entries-loop-entry : goal.invariant-check_entries-loop-entry
invariant-check_entries-loop-entry l = record {
  at : l.i ≡ l.entry-index;
  fills : (l.fills && fills (type_tree l.ctype) l.i (inits_of (map init_tree (drop l.entry-index l.entries)))) ≡ fills (type_tree l.ctype) 0 (inits_of (map init_tree l.entries));
  faults : (l.least or_earlier entries_fault (scope_of l.scope) l.file (type_tree l.ctype) l.i (inits_of (map init_tree (drop l.entry-index l.entries)))) ≡ entries_fault (scope_of l.scope) l.file (type_tree l.ctype) 0 (inits_of (map init_tree l.entries));
}
