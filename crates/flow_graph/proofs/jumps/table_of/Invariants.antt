use Rattle.std.proofs.Common.{◌≡◌, map, reverse, take}
use Rattle.csub_objects.specs.Types.{Name}
use Rattle.csub_semantics.specs.Successors.{target}
use Rattle.flow_graph.specs.Jumps.{entry_of, to_or}
use Rattle.flow_graph.specs.Numbers.{numbered_mark}
use Rattle.flow_graph.proofs.jumps.table_of.Given as goal

abbrev pub invariant-loop-labelled : goal.invariant-loop-labelled
invariant-loop-labelled l =
    (name : Name) → to_or (entry_of l.table name) l.exit ≡ target (reverse (map numbered_mark (take l.labelled-index l.marks))) l.exit name
