use Rattle.std.proofs.Common.{◌≡◌, ◌++◌, map}
use Rattle.flow_graph.specs.Numbers.{numbered_node, numbered_point, of_function}
use Rattle.flow_graph.proofs.build.append.Given as goal

abbrev pub invariant-loop-node : goal.invariant-loop-node
invariant-loop-node l =
    map numbered_point l.points.items ≡ map numbered_point l.initial.points.items ++ map (of_function l.function) (map numbered_node l.yielded)
