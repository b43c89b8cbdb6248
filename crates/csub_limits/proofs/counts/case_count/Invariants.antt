use Rattle.std.proofs.Common.{◌≡◌, ◌+◌, ◌≤◌, map, length, drop}
use Rattle.csub_semantics.specs.Syntax.{stmt_tree, stmts_of}
use Rattle.csub_semantics.specs.Successors.{case_values}
use Rattle.csub_limits.proofs.counts.case_count.Given as goal

-- the cases so far and those of the other lines
abbrev pub invariant-loop-stmt : goal.invariant-loop-stmt
invariant-loop-stmt l = record {
  few : l.count ≤ l.stmt-index;
  rest : l.count + length (case_values (stmts_of (map stmt_tree (drop l.stmt-index l.stmts)))) ≡ length (case_values (stmts_of (map stmt_tree l.stmts)));
}
