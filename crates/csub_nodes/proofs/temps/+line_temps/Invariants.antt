use Rattle.std.proofs.Common.{◌≡◌, max, map, drop}
use Rattle.csub_semantics.specs.Syntax.{stmt_tree, stmts_of}
use Rattle.csub_resolution.specs.Programs.{most_temps, parts_of_all}
use Rattle.csub_nodes.proofs.temps.+line_temps.Given as goal

abbrev pub invariant-lines_temps-loop-line : goal.invariant-lines_temps-loop-line
invariant-lines_temps-loop-line l =
    max l.most (most_temps (parts_of_all (stmts_of (map stmt_tree (drop l.line-index l.lines))))) ≡ most_temps (parts_of_all (stmts_of (map stmt_tree l.lines)))
