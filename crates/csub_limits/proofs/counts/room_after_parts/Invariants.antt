use Rattle.std.proofs.Common.{◌≡◌, ◌+◌, sum_by, take}
use Rattle.csub_semantics.specs.Syntax.{part_tree}
use Rattle.csub_limits.specs.Counts.{count_part}
use Rattle.csub_limits.proofs.counts.room_after_parts.Given as goal

abbrev pub invariant-loop-part : goal.invariant-loop-part
invariant-loop-part l = l.rest + sum_by (λ p. count_part l.measure (part_tree p)) (take l.part-index l.parts) ≡ l.room
