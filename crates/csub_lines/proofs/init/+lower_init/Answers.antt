use Rattle.std.proofs.Common.{map, length, arith}
use Rattle.csub_scopes.specs.Meanings.{scope_of}
use Rattle.csub_semantics.specs.Labels.{init_tree as made_tree}
use Rattle.csub_lines.proofs.Numbers.{entries_done}
use Rattle.csub_lines.proofs.init.+lower_init.Goals as goal

pub lower_entries-returns-clause-trees : goal.lower_entries-returns-clause-trees
lower_entries-returns-clause-trees t c =
    entries_done (scope_of c.args.known.scope.now) (length c.args.made.now.items) (length c.loop-entry.made.items) c.loop-entry.entry-index
    c.args.entries.now (map made_tree c.loop-entry.values.items) (omega (arith, c.loop-entry-test.false)) c.loop-entry.invariant.trees
