use Rattle.std.proofs.Common.{◌≡◌, map, take}
use Rattle.csub_objects.specs.Meaning.{member_tree}
use Rattle.csub_lower.proofs.call.copy_members.Given as goal

abbrev pub invariant-loop-member : goal.invariant-loop-member
invariant-loop-member l = map member_tree l.made.items ≡ map member_tree (take l.member-index l.members)
