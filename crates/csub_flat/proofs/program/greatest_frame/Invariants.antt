use Rattle.std.proofs.Common.{ℕ, ◌<◌, ◌≤◌, get_or}
use Rattle.csub_semantics.specs.declared.function.Function.{Function}
use Rattle.csub_semantics.specs.Syntax.{function_tree}
use Rattle.csub_flat.specs.Frames.{frame_size}
use Rattle.csub_flat.proofs.program.greatest_frame.Given as goal

abbrev pub invariant-loop-i : goal.invariant-loop-i
invariant-loop-i l = record {
  most : (k : ℕ) (d : Function) → k < l.i → frame_size (function_tree (get_or l.functions k d)) ≤ l.most;
  small : l.most ≤ 4096;
}
