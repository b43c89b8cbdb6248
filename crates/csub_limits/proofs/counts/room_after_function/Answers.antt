use Rattle.std.proofs.Common.{◌≡◌, ◌-◌, ◌≤◌}
use Rattle.csub_limits.specs.Counts.{count_ends}
use Rattle.csub_limits.proofs.Counting.{count_list-sum_by, SomeIff-after}
use Rattle.csub_limits.proofs.counts.room_after_function.Goals as goal

pub returns : goal.returns
returns c =
    let enough : count_ends c.args.measure ≤ c.args.room = rw c.of_ends-ends.ensures at c.in_ok-inside.ensures.0 in
    let inside : c.in_ok-inside.inside ≡ c.args.room - count_ends c.args.measure = rw c.of_ends-ends.ensures at c.in_ok-inside.ensures.1 in
    rw (count_list-sum_by c.args.measure c.args.function.now.body.items)
    (SomeIff-after _ _ _ _ _ enough inside (rw c.deref.ensures.value at c.room_after_stmts.ensures))
