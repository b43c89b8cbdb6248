use Rattle.std.proofs.Common.{◌≡◌, ◌+◌, sum_by, take}
use Rattle.csub_semantics.specs.Syntax.{stmt_tree}
use Rattle.csub_limits.specs.Counts.{count}
use Rattle.csub_limits.proofs.counts.+count.Given as goal

abbrev pub invariant-room_after_stmts-loop-stmt : goal.invariant-room_after_stmts-loop-stmt
invariant-room_after_stmts-loop-stmt l =
    l.rest + sum_by (λ s. count l.measure (stmt_tree s)) (take l.stmt-index l.stmts) ≡ l.room
