use Rattle.std.proofs.Common.{◌≡◌, ◌++◌, ◌+◌, drop, length, map}
use Rattle.csub_semantics.specs.Syntax.{function_tree}
use Rattle.flow_graph.specs.Numbers.{count_program, numbered_point, numbered_function, program_numbered, functions_numbered}
use Rattle.flow_graph.proofs.build.list_points.Given as goal

abbrev pub invariant-loop-i : goal.invariant-loop-i
invariant-loop-i l =
    record {
      count : length l.points.items + count_program (map function_tree (drop l.i l.functions)) ≡ count_program (map function_tree l.functions);
      functions : map numbered_function l.listed.items ++ functions_numbered (map function_tree (drop l.i l.functions)) (length l.points.items) ≡ functions_numbered (map function_tree l.functions) 0;
      points : map numbered_point l.points.items ++ program_numbered (map function_tree (drop l.i l.functions)) l.i (length l.points.items) ≡ program_numbered (map function_tree l.functions) 0 0;
    }
