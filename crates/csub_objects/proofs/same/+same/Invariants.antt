use Rattle.std.proofs.Common.{◌≡◌, ◌+◌, map, take}
use Rattle.csub_objects.specs.Codes.{type_size, members_size}
use Rattle.csub_objects.specs.Meaning.{type_tree, member_tree}
use Rattle.csub_objects.specs.Types.{members_of}
use Rattle.csub_objects.proofs.same.+same.Given as goal

abbrev pub decreases-same_type : goal.decreases-same_type
decreases-same_type l = type_size (type_tree l.a.now)

abbrev pub decreases-same_members : goal.decreases-same_members
decreases-same_members l = members_size (members_of (map member_tree l.a.now)) + 1

abbrev pub decreases-same_member : goal.decreases-same_member
decreases-same_member l = type_size (type_tree l.a.now.ctype) + 1

abbrev pub invariant-same_members-loop-i : goal.invariant-same_members-loop-i
invariant-same_members-loop-i l = map member_tree (take l.i l.a) ≡ map member_tree (take l.i l.b)
