use Rattle.std.proofs.Common.{◌≡◌, ℕ, length, Option, Some}
use Rattle.std.specs.Prelude.{slice_get}
use Rattle.dual_walk.specs.Callees.{IsCalleeAt}
use Rattle.dual_walk.specs.declared.callees.Callee.{Callee}
use Rattle.dual_walk.proofs.callees.list_callees.Given as goal

-- what is called at the points so far
abbrev pub invariant-loop-point : goal.invariant-loop-point
invariant-loop-point l = record {
  points : length l.callees.items ≡ l.point;
  each : (n : ℕ) (callee : Option Callee) → slice_get l.callees.items n ≡ Some callee → IsCalleeAt l.old l.new n callee;
}
