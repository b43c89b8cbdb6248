use Rattle.std.proofs.Common.{◌≡◌, [], map, drop}
use Rattle.csub_tree.specs.Statements.{stmt_tree, stmts_of}
use Rattle.csub_rules.specs.Faults.{◌or_earlier◌}
use Rattle.csub_rules.specs.Past.{past_lines}
use Rattle.csub_rules.specs.CaseLabels.{labels_fault}
use Rattle.csub_rules.specs.StmtFaults.{lines_fault}
use Rattle.csub_bodies.specs.Switches.{seen_of}
use Rattle.csub_bodies.specs.Views.{here_of, the_surroundings}
use Rattle.csub_bodies.proofs.statement.+check_statement.Given as goal

abbrev pub invariant-check_lines-loop-line : goal.invariant-check_lines-loop-line
invariant-check_lines-loop-line l = record {
  past : past_lines (here_of l.here) (stmts_of (map stmt_tree (drop l.line-index l.lines))) ≡ past_lines (here_of l.fn.here) (stmts_of (map stmt_tree l.lines));
  faults : (l.least or_earlier lines_fault (the_surroundings l.around) (here_of l.here) (stmts_of (map stmt_tree (drop l.line-index l.lines))))
      ≡ lines_fault (the_surroundings l.around) (here_of l.fn.here) (stmts_of (map stmt_tree l.lines));
}

abbrev pub invariant-check_cases-loop-line : goal.invariant-check_cases-loop-line
invariant-check_cases-loop-line l = record {
  past : past_lines (here_of l.here) (stmts_of (map stmt_tree (drop l.line-index l.lines))) ≡ past_lines (here_of l.fn.here) (stmts_of (map stmt_tree l.lines));
  faults : (l.found.lines or_earlier lines_fault (the_surroundings l.around) (here_of l.here) (stmts_of (map stmt_tree (drop l.line-index l.lines))))
      ≡ lines_fault (the_surroundings l.around) (here_of l.fn.here) (stmts_of (map stmt_tree l.lines));
  labels : (l.found.labels or_earlier labels_fault l.kind (here_of l.here) (seen_of l.seen) (stmts_of (map stmt_tree (drop l.line-index l.lines))))
      ≡ labels_fault l.kind (here_of l.fn.here) [] (stmts_of (map stmt_tree l.lines));
}
