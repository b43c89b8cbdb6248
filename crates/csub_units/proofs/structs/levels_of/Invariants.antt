use Rattle.std.proofs.Common.{map, drop}
use Rattle.csub_objects.specs.Meaning.{member_tree}
use Rattle.csub_objects.specs.Types.{IsCapped, member_levels, members_of}
use Rattle.csub_units.proofs.structs.levels_of.Given as goal

abbrev pub invariant-loop-i : goal.invariant-loop-i
invariant-loop-i l = IsCapped l.most (member_levels (members_of (map member_tree (drop l.i l.members))))
