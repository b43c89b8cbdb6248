use Rattle.std.proofs.Common.{ℕ, ◌+◌, ◌<◌, map, get_or}
use Rattle.csub_objects.specs.declared.types.Member.{Member}
use Rattle.csub_objects.specs.Codes.{type_size, members_size}
use Rattle.csub_objects.specs.Meaning.{type_tree, member_tree}
use Rattle.csub_objects.specs.Types.{members_of}
use Rattle.csub_decisions.specs.Checks.{tree_of, declared_structs, AllAgree}
use Rattle.csub_decisions.proofs.tags.+tags.Given as goal

abbrev pub decreases-type_agrees : goal.decreases-type_agrees
decreases-type_agrees l = type_size (type_tree l.ctype.now)

abbrev pub decreases-members_agree : goal.decreases-members_agree
decreases-members_agree l = members_size (members_of (map member_tree l.members.now)) + 1

-- the structs of the members before agree with all
abbrev pub invariant-members_agree-loop-member : goal.invariant-members_agree-loop-member
invariant-members_agree-loop-member l =
    (k : ℕ) (d : Member) → k < l.member-index → AllAgree (declared_structs (tree_of l.program)) (type_tree (get_or l.members k d).ctype)
