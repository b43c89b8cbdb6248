use Rattle.std.proofs.Common.{◌≡◌, map}
use Rattle.csub_objects.specs.Meaning.{type_tree}
use Rattle.csub_flat.specs.Scopes.{globals_at, function_at}
use Rattle.csub_flat.specs.Seen.{write_seen}
use Rattle.csub_flat.proofs.Writes.{Begun}
use Rattle.csub_flat.proofs.inits.+initialising.Given as goal

abbrev pub invariant-flatten_inits-loop-entry : goal.invariant-flatten_inits-loop-entry
invariant-flatten_inits-loop-entry l = record {
  at : l.i ≡ l.entry-index;
  begun : Begun (globals_at l.scope) (function_at l.scope) l.entries (type_tree l.whole) l.slot (map write_seen l.fn.steps.items) l.entry-index l.at (map write_seen l.steps.items);
}
