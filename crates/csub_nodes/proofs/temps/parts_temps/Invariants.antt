use Rattle.std.proofs.Common.{◌≡◌, max, map, drop}
use Rattle.csub_semantics.specs.Syntax.{part_tree}
use Rattle.csub_resolution.specs.Programs.{most_temps}
use Rattle.csub_nodes.proofs.temps.parts_temps.Given as goal

abbrev pub invariant-loop-part : goal.invariant-loop-part
invariant-loop-part l = max l.most (most_temps (map part_tree (drop l.part-index l.parts))) ≡ most_temps (map part_tree l.parts)
