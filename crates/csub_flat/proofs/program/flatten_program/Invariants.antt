use Rattle.std.proofs.Common.{ℕ, ◌<◌, ◌≡◌, get_or, length}
use Rattle.csub_semantics.specs.Syntax.{program_tree}
use Rattle.csub_flat.specs.declared.program.FlatPoint.{FlatPoint}
use Rattle.csub_flat.specs.Copies.{IsPointAt}
use Rattle.csub_flat.proofs.program.flatten_program.Given as goal

abbrev pub invariant-loop-point : goal.invariant-loop-point
invariant-loop-point l = record {
  count : length l.points.items ≡ l.point;
  each : (n : ℕ) (m : FlatPoint) → n < length l.points.items → m ≡ get_or l.points.items n m → IsPointAt (program_tree l.program) n m;
}
