use Rattle.std.proofs.Common.{◌≡◌, ◌++◌, List, length, drop}
use Rattle.std.specs.Vec.Iter.{into_iter_items}
use Rattle.test_history.specs.Histories.{EntryParts}
use Rattle.carry_history.specs.Laid.{tests_again, AreLaid}
use Rattle.carry_history.proofs.laying.lay.Given as goal

abbrev pub invariant-loop-place : goal.invariant-loop-place
invariant-loop-place l = record {
  left : length (into_iter_items l.results) ≡ length (tests_again (drop l.place l.entries) (drop l.place l.stays));
  laid : (rest : List EntryParts) → AreLaid l.edges l.images (drop l.place l.entries) (drop l.place l.stays) (into_iter_items l.results) rest
      → AreLaid l.edges l.images l.entries l.stays l.fn.results.items (l.laid.items ++ rest);
}
