use Rattle.std.proofs.Common.{◌≡◌, map, drop}
use Rattle.csub_tree.specs.Statements.{stmt_tree, stmts_of}
use Rattle.csub_validity.specs.Valid.{most_values}
use Rattle.csub_limits.specs.Limits.{first_above}
use Rattle.csub_limits.specs.Prints.{lines_prints}
use Rattle.csub_limits.proofs.prints.+statement.Given as goal

-- none of the lines so far has such a call
abbrev pub invariant-wide_in_lines-loop-line : goal.invariant-wide_in_lines-loop-line
invariant-wide_in_lines-loop-line l =
    first_above most_values (lines_prints (stmts_of (map stmt_tree l.lines))) ≡ first_above most_values (lines_prints (stmts_of (map stmt_tree (drop l.line-index l.lines))))
