use Rattle.std.proofs.Common.{◌≡◌, map, drop}
use Rattle.csub_tree.specs.Statements.{stmt_tree, stmts_of}
use Rattle.csub_rules.specs.Faults.{◌or_earlier◌}
use Rattle.csub_rules.specs.Labels.{labels_of_lines, past_names, twice_fault}
use Rattle.csub_bodies.proofs.labels.+collect_labels.Given as goal

abbrev pub invariant-collect_from_lines-loop-line : goal.invariant-collect_from_lines-loop-line
invariant-collect_from_lines-loop-line l = record {
  past : past_names l.labels (labels_of_lines (stmts_of (map stmt_tree (drop l.line-index l.lines)))) ≡ past_names l.fn.labels (labels_of_lines (stmts_of (map stmt_tree l.lines)));
  faults : (l.least or_earlier twice_fault l.labels (labels_of_lines (stmts_of (map stmt_tree (drop l.line-index l.lines)))))
      ≡ twice_fault l.fn.labels (labels_of_lines (stmts_of (map stmt_tree l.lines)));
}
