use Rattle.std.proofs.Common.{◌≡◌, ◌+◌, sum_by, take}
use Rattle.csub_semantics.specs.Syntax.{stmt_tree}
use Rattle.csub_decisions.specs.ProgramChecks.{label_names, uses}
use Rattle.csub_decisions.proofs.valid.labels.+room.Given as goal

abbrev pub invariant-room_after_labels-loop-stmt : goal.invariant-room_after_labels-loop-stmt
invariant-room_after_labels-loop-stmt l =
    l.rest + sum_by (λ s. uses l.name (label_names (stmt_tree s))) (take l.stmt-index l.stmts) ≡ l.room
