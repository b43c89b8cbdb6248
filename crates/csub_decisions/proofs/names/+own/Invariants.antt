use Rattle.std.proofs.Common.{ℕ, ◌+◌, ◌<◌, map, get_or}
use Rattle.csub_objects.specs.declared.types.Member.{Member}
use Rattle.csub_objects.specs.Codes.{type_size, members_size}
use Rattle.csub_objects.specs.Meaning.{type_tree, member_tree}
use Rattle.csub_objects.specs.Types.{members_of}
use Rattle.csub_validity.specs.Valid.{HasOwnNames}
use Rattle.csub_decisions.proofs.names.+own.Given as goal

abbrev pub decreases-type_is_own : goal.decreases-type_is_own
decreases-type_is_own l = type_size (type_tree l.ctype.now)

abbrev pub decreases-members_are_own : goal.decreases-members_are_own
decreases-members_are_own l = members_size (members_of (map member_tree l.members.now)) + 1

abbrev pub invariant-members_are_own-loop-member : goal.invariant-members_are_own-loop-member
invariant-members_are_own-loop-member l = (k : ℕ) (d : Member) → k < l.member-index → HasOwnNames (type_tree (get_or l.members k d).ctype)
