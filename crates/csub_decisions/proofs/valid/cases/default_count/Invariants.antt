use Rattle.std.proofs.Common.{◌≡◌, ◌+◌, ◌≤◌, map, drop}
use Rattle.csub_semantics.specs.Syntax.{stmt_tree, stmts_of}
use Rattle.csub_validity.specs.Valid.{default_count}
use Rattle.csub_decisions.proofs.valid.cases.default_count.Given as goal

-- the labels so far and those of the other lines
abbrev pub invariant-loop-stmt : goal.invariant-loop-stmt
invariant-loop-stmt l = record {
  few : l.count ≤ l.stmt-index;
  rest : l.count + default_count (stmts_of (map stmt_tree (drop l.stmt-index l.stmts))) ≡ default_count (stmts_of (map stmt_tree l.stmts));
}
