use Rattle.std.proofs.Common.{◌≡◌, map, take}
use Rattle.csub_semantics.specs.Types.{global_tree}
use Rattle.flow_graph.proofs.build.copy_globals.Given as goal

abbrev pub invariant-loop-global : goal.invariant-loop-global
invariant-loop-global l = map global_tree l.made.items ≡ map global_tree (take l.global-index l.globals)
