use Rattle.std.proofs.Common.{ℕ, ◌+◌, ◌<◌, map, get_or}
use Rattle.csub_objects.specs.declared.types.Member.{Member}
use Rattle.csub_objects.specs.Codes.{type_size, members_size}
use Rattle.csub_objects.specs.Meaning.{type_tree, member_tree}
use Rattle.csub_objects.specs.Types.{members_of}
use Rattle.csub_decisions.specs.Checks.{struct_tree, AgreesIn}
use Rattle.csub_decisions.proofs.tags.+agreeing.Given as goal

abbrev pub decreases-agrees_in : goal.decreases-agrees_in
decreases-agrees_in l = type_size (type_tree l.ctype.now)

abbrev pub decreases-agrees_among : goal.decreases-agrees_among
decreases-agrees_among l = members_size (members_of (map member_tree l.items.now)) + 1

-- the struct agrees with those of the items before
abbrev pub invariant-agrees_among-loop-item : goal.invariant-agrees_among-loop-item
invariant-agrees_among-loop-item l =
    (k : ℕ) (d : Member) → k < l.item-index → AgreesIn (struct_tree l.tag l.members) (type_tree (get_or l.items k d).ctype)
