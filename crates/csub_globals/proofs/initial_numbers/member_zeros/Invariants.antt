use Rattle.std.proofs.Common.{◌≡◌, ◌++◌, pos, map, drop}
use Rattle.csub_objects.specs.Meaning.{member_tree}
use Rattle.csub_objects.specs.Types.{member_kinds, members_of}
use Rattle.csub_globals.proofs.initial_numbers.member_zeros.Given as goal

abbrev pub invariant-loop-member : goal.invariant-loop-member
invariant-loop-member l =
    l.numbers.items ++ map (λ k. pos 0) (member_kinds (members_of (map member_tree (drop l.member-index l.members))))
    ≡ l.fn.numbers.items ++ map (λ k. pos 0) (member_kinds (members_of (map member_tree l.members)))
