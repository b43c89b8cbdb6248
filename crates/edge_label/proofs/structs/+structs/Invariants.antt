use Rattle.std.proofs.Common.{◌≡◌, ◌+◌, ◌*◌, IsTrue, drop, map}
use Rattle.csub_objects.specs.Codes.{type_size, members_size}
use Rattle.csub_objects.specs.Meaning.{type_tree, member_tree}
use Rattle.csub_objects.specs.Types.{members_of}
use Rattle.edge_label.specs.Known.{AreStructs}
use Rattle.edge_label.specs.Tables.{Extends}
use Rattle.edge_label.specs.Uses.{Tags, AreTagged}
use Rattle.edge_label.proofs.StructLemmas.{AppendsFirst}
use Rattle.edge_label.proofs.structs.+structs.Given as goal

abbrev pub decreases-push_short : goal.decreases-push_short
decreases-push_short l = 4 * type_size (type_tree l.ctype.now)

abbrev pub decreases-push_short_members : goal.decreases-push_short_members
decreases-push_short_members l = 4 * members_size (members_of (map member_tree l.members.now)) + 5

abbrev pub decreases-number_struct : goal.decreases-number_struct
decreases-number_struct l = 4 * members_size (members_of (map member_tree l.members.now)) + 6

abbrev pub decreases-find_struct : goal.decreases-find_struct
decreases-find_struct l = 4 * members_size (members_of (map member_tree l.members.now)) + 7

-- where what is left has its codes, all members have theirs
abbrev pub invariant-push_short_members-loop-member : goal.invariant-push_short_members-loop-member
invariant-push_short_members-loop-member l = record {
  short : (by_tag : Tags) → (IsTrue l.fn.tags.trusted → AreTagged by_tag (members_of (map member_tree l.members))) → AreStructs by_tag l.fn.structs l.fn.tags
      → AppendsFirst l.structs (members_of (map member_tree l.members)) (members_of (map member_tree (drop l.member-index l.members))) l.fn.out.items l.out.items;
  structs : (by_tag : Tags) → (IsTrue l.fn.tags.trusted → AreTagged by_tag (members_of (map member_tree l.members))) → AreStructs by_tag l.fn.structs l.fn.tags
      → AreStructs by_tag l.structs l.tags;
  grows : Extends l.fn.structs l.structs;
  trusted : l.tags.trusted ≡ l.fn.tags.trusted;
}
