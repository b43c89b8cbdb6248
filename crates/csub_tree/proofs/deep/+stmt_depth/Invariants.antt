use Rattle.std.proofs.Common.{◌≡◌, map, take}
use Rattle.csub_tree.specs.Statements.{stmt_tree, stmts_of}
use Rattle.csub_tree.specs.Depth.{stmts_depth}
use Rattle.csub_tree.proofs.deep.+stmt_depth.Given as goal

abbrev pub invariant-stmts_depth-loop-stmt : goal.invariant-stmts_depth-loop-stmt
invariant-stmts_depth-loop-stmt l = l.deep ≡ stmts_depth (stmts_of (map stmt_tree (take l.stmt-index l.stmts)))
