use Rattle.std.proofs.Common.{ℕ, ◌<◌, ◌≡◌, map, length, get_or}
use Rattle.csub_objects.specs.Meaning.{member_tree}
use Rattle.csub_objects.specs.Names.{cells_before}
use Rattle.csub_objects.specs.Types.{IsCapped}
use Rattle.csub_objects.proofs.make.firsts_of.Given as goal

abbrev pub invariant-loop-member : goal.invariant-loop-member
invariant-loop-member l =
    (length l.firsts.items ≡ l.member-index)
    × IsCapped l.before (cells_before l.member-index (map member_tree l.members))
    × ((k : ℕ) → k < length l.firsts.items → IsCapped (get_or l.firsts.items k 0) (cells_before k (map member_tree l.members)))
