use Rattle.std.proofs.Common.{leb, sym, subst, List, ℕ, ◌≡◌, ◌≤◌, true, false, length, rules}
use Rattle.std.specs.List.Sorted.{IsPartitionedBy, IsPartitionPoint}
use Rattle.std.proofs.lemmas.List.Sorted.{IsPartitionPoint-from_clause}
use Rattle.source_place.proofs.LineLemmas.{begins_partitioned, line_is}
use Rattle.source_place.proofs.table.line_at.Goals as goal

pub returns : goal.returns
returns c source is within =
    let place = c.args.place in
    let point = IsPartitionPoint-from_clause (λ y. leb y place) c.args.begins.now c.partition_point.result c.partition_point.ensures.partitioned
    (subst (IsPartitionedBy (λ y. leb y place)) (sym is) (begins_partitioned source place within)) (λ a r f h. search rules) in
    line_is source place within c.partition_point.result (subst (λ (begins : List ℕ). c.partition_point.result ≤ length begins) is c.partition_point.ensures.bound)
    (subst (λ (begins : List ℕ). IsPartitionPoint (λ y. leb y place ≡ true) (λ y. leb y place ≡ false) begins c.partition_point.result) is point)
