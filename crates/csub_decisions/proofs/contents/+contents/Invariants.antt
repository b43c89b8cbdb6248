use Rattle.std.proofs.Common.{◌+◌, ◌-◌, ◌*◌, map, drop}
use Rattle.std.specs.List.{repeat}
use Rattle.csub_objects.specs.Codes.{type_size, members_size}
use Rattle.csub_objects.specs.Meaning.{type_tree, member_tree}
use Rattle.csub_objects.specs.Types.{kinds, member_kinds, members_of}
use Rattle.csub_decisions.proofs.ValidContents.{GoesOn}
use Rattle.csub_decisions.proofs.contents.+contents.Given as goal

abbrev pub decreases-behind_object : goal.decreases-behind_object
decreases-behind_object l = type_size (type_tree l.ctype.now) * 2

abbrev pub decreases-behind_elements : goal.decreases-behind_elements
decreases-behind_elements l = type_size (type_tree l.element.now) * 2 + 1

abbrev pub decreases-behind_members : goal.decreases-behind_members
decreases-behind_members l = members_size (members_of (map member_tree l.members.now)) * 2 + 1

abbrev pub invariant-behind_elements-loop : goal.invariant-behind_elements-loop
invariant-behind_elements-loop l =
    GoesOn (repeat l.length (kinds (type_tree l.element))) l.numbers (repeat (l.length - l.counter) (kinds (type_tree l.element))) l.rest

abbrev pub invariant-behind_members-loop-member : goal.invariant-behind_members-loop-member
invariant-behind_members-loop-member l =
    GoesOn (member_kinds (members_of (map member_tree l.members))) l.numbers (member_kinds (members_of (map member_tree (drop l.member-index l.members)))) l.rest
