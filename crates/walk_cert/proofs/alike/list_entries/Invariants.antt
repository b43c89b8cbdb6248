use Rattle.std.proofs.Common.{◌≡◌, ℕ, length, Option, Some}
use Rattle.std.specs.Prelude.{slice_get}
use Rattle.walk_cert.specs.Entries.{IsEntryFor}
use Rattle.walk_cert.proofs.alike.list_entries.Given as goal

-- the entries for the points so far
abbrev pub invariant-loop-point : goal.invariant-loop-point
invariant-loop-point l = record {
  points : length l.entries.items ≡ l.point;
  each : (n : ℕ) (found : Option ℕ) → slice_get l.entries.items n ≡ Some found → IsEntryFor l.old l.new n found;
}
